pub mod AbsentCalls
