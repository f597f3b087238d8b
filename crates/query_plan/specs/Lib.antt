pub mod Answers
pub mod BoundConditions
pub mod BoundQueries
pub mod BoundViews
pub mod NamedCells
pub mod Plans
pub mod PlanViews
pub mod UsedTables
