pub mod Json
pub mod EscapeTable
pub mod MemberViews
