-- Outcomes as eight numbers, for a caller that takes no enum.
pub mod Numbers
