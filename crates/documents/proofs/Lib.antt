pub mod Lists
pub mod MemberLemmas
