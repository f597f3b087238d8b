pub mod RowViews
