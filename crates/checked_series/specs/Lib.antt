-- Images of another firm's packer that were checked against a plan (paper 02, C-20): what is claimed of every series of their loads.
pub mod Claims
