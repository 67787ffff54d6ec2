mod Alike
mod CheckLemmas
mod FaultLemmas
