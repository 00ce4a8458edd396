pub mod Reading
pub mod Plans
pub mod Laws
pub mod PlanList
pub mod ListFaults
