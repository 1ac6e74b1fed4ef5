pub mod AnyLevel
