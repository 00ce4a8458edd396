pub mod Matching
pub mod Rules
pub mod Bindings
pub mod Forms
pub mod MatchRules
pub mod Policies
pub mod Spec
pub mod Validation
