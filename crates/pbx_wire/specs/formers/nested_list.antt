pub mod NestedList
