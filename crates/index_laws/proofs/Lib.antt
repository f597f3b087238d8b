pub mod IndexKeys
pub mod KeyOrdering
pub mod IndexReads
pub mod IndexUpdates
pub mod IndexViewLaws
