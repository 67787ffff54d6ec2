pub mod Apart
mod Followed
mod FollowedSteps
mod FunctionLemmas
mod ImportLemmas
mod LocalsLemmas
mod ModuleLaws
pub mod NumberedBodies
mod Refusals
mod Short
mod ShortBodies
mod ShortCodes
mod ShortModules
mod ShortParts
pub mod ShortRun
mod ShortTyped
mod WriteCodes
mod WriteExpression
mod WriteSections
mod WriteSimple
