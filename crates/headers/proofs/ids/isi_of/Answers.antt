-- `headers::ids::isi_of` meets its contract: a row that is taken obeys its rules.
-- Assumes nothing.
use Rattle.std.proofs.Common.{◌<◌, sym, rules}
use Rattle.headers.proofs.Rules.{obeying}
use Rattle.headers.proofs.ids.isi_of.Goals as goal

pub isi_of-requires : goal.isi_of-requires
isi_of-requires c = (search rules, search rules, (obeying (sym c.in_ok-verify.ensures)).ranges.kp-16)
