use Rattle.std.proofs.Math.Nat.{le_refl}
use Rattle.receive.proofs.run.Goals as goal

pub take-requires-clause-values_in_bounds : goal.take-requires-clause-values_in_bounds
take-requires-clause-values_in_bounds c = (le_refl _, le_refl _)
