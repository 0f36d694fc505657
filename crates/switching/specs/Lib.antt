pub mod TwoOrMore
