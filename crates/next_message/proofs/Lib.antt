pub mod InRow
