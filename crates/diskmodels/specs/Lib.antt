pub mod Moments
pub mod PastLaws
pub mod Changes
pub mod ChangeLaws
