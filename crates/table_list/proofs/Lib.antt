pub mod KindLaws
pub mod NullLaws
pub mod PlainLaws
pub mod PutLaws
pub mod CommandLaws
