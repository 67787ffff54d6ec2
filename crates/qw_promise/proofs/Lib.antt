mod EmptyModules
mod OwnWeights
