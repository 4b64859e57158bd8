-- What an APLX image has to be, whoever made it (document 002, paper 01, "APLX" and "Plans").
pub mod Carries
