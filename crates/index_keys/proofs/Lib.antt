pub mod KeyTests
