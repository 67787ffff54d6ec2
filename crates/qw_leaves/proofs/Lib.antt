pub mod Agreement
pub mod ComparedLemmas
pub mod LeafLemmas
pub mod LeafLists
pub mod TreeLeaves
