-- Laws, theorems and computed examples.
pub mod TableProved
