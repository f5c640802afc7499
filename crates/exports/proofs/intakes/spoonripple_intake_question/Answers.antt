-- `exports::intakes::spoonripple_intake_question` meets its contract: room for the shortfall, then what `question` answered.
-- Assumes nothing.
use Rattle.std.proofs.Common.{rules}
use Rattle.exports.proofs.Asking.{told-without}
use Rattle.exports.proofs.intakes.spoonripple_intake_question.Goals as goal

pub returns-then-is_empty : goal.returns-then-is_empty
returns-then-is_empty c = told-without _ _ _ _ _ _ _ _ _ _ _ c.question.result (search rules) c.question.ensures c.told.ensures
