-- Where the object goes, by the program's arguments (docs/DELIVERY.md).
-- Assumes nothing.
use Rattle.std.specs.Prelude.{Option, Some, None, Result, Ok, Err, ℕ, eqb, ltb}
use Rattle.field.specs.Choice.{pick}
use Rattle.reply.specs.declared.beneath.arguments.Misuse.{Misuse}
use Rattle.reply.specs.declared.beneath.arguments.Misuse.TheVariants.{Arguments, NoName, LongName}
use Rattle.reply.specs.declared.beneath.arguments.Target.{Target}
use Rattle.reply.specs.declared.beneath.arguments.Target.TheVariants.{Output, File}

-- to the file of a name of so many bytes, where it fits the store for it
abbrev pub file_of : Option ℕ → Result Target Misuse
file_of None = Err LongName
file_of (Some n) = pick (eqb n 0) (Err NoName) (Ok File)

abbrev pub target_of : ℕ → Option ℕ → Result Target Misuse
target_of count name = pick (ltb count 2) (Ok Output) (pick (ltb 2 count) (Err Arguments) (file_of name))
