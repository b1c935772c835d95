-- Laws of the plan and the rules.
pub mod Checked
pub mod Plan
