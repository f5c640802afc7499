-- Each contract settles its answer, and what stands in the store afterwards.
-- Assumes nothing.
use Rattle.std.proofs.Common.{◌≡◌, ℕ, List, [], ◌∷◌, length, get_or, refl}
use Rattle.std.specs.Prelude.{Result}
use Rattle.field.specs.Answer.{Outcome}
use Rattle.field.proofs.Answers.{outcome_of-only}
use Rattle.field.proofs.Refusals.{settled-written}
use Rattle.headers.specs.Headers.{Stores, head_outcome, packet_outcome}
use Rattle.headers.specs.Partition.{partition_outcome}
use Rattle.field.specs.declared.refusal.Refusal.{Refusal}
use Rattle.headers.specs.declared.packet.Cursor.{Cursor}
use Rattle.headers.specs.declared.packet.Packet.{Packet}
use Rattle.headers.specs.declared.partition.Parts.{Parts}
use Rattle.headers.specs.declared.payload_id.PayloadId.{PayloadId}

-- a writer's answer, and every byte of the store
module _ {o : Outcome (Unit {0})} {bs xs ys zs : List ℕ} where
  pub stores-only : {p q : Result (Unit {0}) Refusal} → Stores o bs xs ys p → Stores o bs xs zs q → (p ≡ q) × (ys ≡ zs)
  stores-only {p} {q} u v =
      settled-written o xs (λ k. get_or bs k 0) 0 (length bs) p q ys zs (u.answer, u.memory) (v.answer, v.memory)

pub head-only : (p q : Result (PayloadId × Cursor) Refusal) → head_outcome p ≡ head_outcome q → p ≡ q
head-only = outcome_of-only (λ (x : PayloadId × Cursor). (x.0, x.1.at)) (λ y. (y.0, record { at = y.1 })) (λ _. refl)

pub packet-only : (p q : Result Packet Refusal) → packet_outcome p ≡ packet_outcome q → p ≡ q
packet-only = outcome_of-only (λ (p : Packet). (p.payload_id, p.from, p.len)) (λ y. record { payload_id = y.0; from = y.1; len = y.2 }) (λ _. refl)

-- the four numbers of a partition's answer, by their places in the list
abbrev four : List ℕ → Parts
four x = record { il = get_or x 0 0; is = get_or x 1 0; jl = get_or x 2 0; js = get_or x 3 0 }

pub partition-only : (p q : Result Parts Refusal) → partition_outcome p ≡ partition_outcome q → p ≡ q
partition-only = outcome_of-only (λ (p : Parts). p.il ∷ p.is ∷ p.jl ∷ p.js ∷ []) four (λ _. refl)
