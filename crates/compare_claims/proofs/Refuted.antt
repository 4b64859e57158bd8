-- The claims, and what is said of refusals, are false of wrong comparisons.
pub mod Comparisons  -- each wrong in one thing
pub mod Example  -- two plans, and what the claims say of them
pub mod Answers  -- what each gives for the two plans, and that the claims are false of it
pub mod Refusals  -- comparisons that test in another order
