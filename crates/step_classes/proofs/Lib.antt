pub mod EachClass
