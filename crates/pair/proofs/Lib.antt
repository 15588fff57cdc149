-- The theory of pairs: sizes, laws, the solver.
pub mod Parts
pub mod Laws
pub mod PairSolver
