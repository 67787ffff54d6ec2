pub mod AccessFacts
pub mod ClearedFacts
pub mod GrowthFacts
pub mod MemoryFacts
mod StoreFacts
