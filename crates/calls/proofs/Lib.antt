-- What the proofs of several calls use.
mod Fitting
mod Meaning
mod PoolMeaning
