-- What is wrong with a parameter row, letter by letter: which number, what it was, and what the rule asks (document 02, E7; docs/DELIVERY.md).
-- Assumes nothing.
use Rattle.std.specs.Prelude.{List, ◌++◌, ℕ, ◌+◌, ◌-◌, ltb, length}
use Prim.Native.String.{String}
use Rattle.field.specs.Answer.{place_of}
use Rattle.field.specs.Choice.{pick}
use Rattle.field.specs.declared.refusal.Part.{Part}
use Rattle.field.specs.declared.refusal.Part.TheVariants as Parts
use Rattle.headers.specs.Bytes.{number}
use Rattle.headers.specs.Quotient.{ceil}
use Rattle.header_text.specs.Text.{spelled}
use Rattle.reply.specs.Ascii.{ascii}
use Rattle.reply.specs.declared.beneath.rows.Typed.{Typed}

-- K', J, S, H and W as they stand in a delivery; 0 in one that ends in front of them, which is refused for that
abbrev pub typed_in : List ℕ → Typed
typed_in d =
    pick (ltb (length d) 32) (record { kp = 0; j = 0; s = 0; h = 0; w = 0 })
    (record { kp = number d 12 4; j = number d 16 4; s = number d 20 4; h = number d 24 4; w = number d 28 4 })

-- a - b in decimal, which may be negative
abbrev pub signed_words : ℕ → ℕ → List ℕ
signed_words a b = pick (ltb a b) (ascii "-" ++ spelled 20 (b - a)) (spelled 20 (a - b))

-- K' + S + H, and W - S, in numbers
abbrev pub sum_words : Typed → List ℕ
sum_words t = spelled 20 t.kp ++ (ascii " + " ++ (spelled 20 t.s ++ (ascii " + " ++ spelled 20 t.h)))

abbrev pub less_words : Typed → List ℕ
less_words t = spelled 20 t.w ++ (ascii " - " ++ spelled 20 t.s)

-- a number between its name and its rule
abbrev pub stated : List ℕ → ℕ → List ℕ → List ℕ
stated name x rule = name ++ (spelled 20 x ++ rule)

abbrev pub ruled : String → ℕ → String → List ℕ
ruled name x rule = stated (ascii name) x (ascii rule)

-- ---- one sentence a part

-- the first of K', J, S, H, W that is too large; W where none of the other four is
abbrev pub wide_words : Typed → List ℕ
wide_words t =
    pick (ltb 65535 t.kp) (ruled "K' is " t.kp ", and must be below 65,536")
    (pick (ltb 65535 t.j) (ruled "J is " t.j ", and must be below 65,536")
    (pick (ltb 65535 t.s) (ruled "S is " t.s ", and must be below 65,536")
    (pick (ltb 65535 t.h) (ruled "H is " t.h ", and must be below 65,536")
    (ruled "W is " t.w ", and must be below 65,536"))))

abbrev pub kp_words : Typed → List ℕ
kp_words t = ruled "K' is " t.kp ", and must be from 1 to 56,403"

abbrev pub s_words : Typed → List ℕ
s_words t = ruled "S is " t.s ", and must be odd and at least 3"

abbrev pub h_words : Typed → List ℕ
h_words t = ruled "H is " t.h ", and must be from 2 to 255"

abbrev pub w_words : Typed → List ℕ
w_words t = ruled "W is " t.w ", and must be a prime"

abbrev pub b_words : Typed → List ℕ
b_words t = ascii "B = W - S is " ++ (less_words t ++ (ascii " = " ++ (signed_words t.w t.s ++ ascii ", and must be at least 1")))

abbrev pub p_words : Typed → List ℕ
p_words t =
    ascii "P = K' + S + H - W is " ++ (sum_words t ++ (ascii " - " ++ (spelled 20 t.w
    ++ (ascii " = " ++ (signed_words (t.kp + t.s + t.h) t.w ++ ascii ", and must be at least 3")))))

-- with 0 for a difference below 0, and for a quotient by 0; the rules before it leave neither
abbrev pub ldpc_words : Typed → List ℕ
ldpc_words t =
    ascii "ceil(B/S) = ceil((W - S)/S) is ceil((" ++ (less_words t ++ (ascii ")/" ++ (spelled 20 t.s
    ++ (ascii ") = " ++ (spelled 20 (ceil (t.w - t.s) t.s) ++ ascii ", and must be below S")))))

abbrev pub l_words : Typed → List ℕ
l_words t = ascii "L = K' + S + H is " ++ (sum_words t ++ (ascii " = " ++ (spelled 20 (t.kp + t.s + t.h) ++ ascii ", and must be at most 65,535")))

-- of no delivery: the program makes the record itself
abbrev pub derived_words : List ℕ
derived_words = ascii "L, P, B or P1 is not what follows from K', J, S, H and W"

abbrev pub fault_words : Part → Typed → List ℕ
fault_words Parts.Wide t = wide_words t
fault_words Parts.Kp t = kp_words t
fault_words Parts.S t = s_words t
fault_words Parts.H t = h_words t
fault_words Parts.W t = w_words t
fault_words Parts.B t = b_words t
fault_words Parts.P t = p_words t
fault_words Parts.Ldpc t = ldpc_words t
fault_words Parts.L t = l_words t
fault_words Parts.Derived t = derived_words

-- the line: the number 4, the part, and its sentence
abbrev pub row_words : Part → Typed → List ℕ
row_words p t = ascii "refused 4, part " ++ (spelled 20 (place_of p) ++ (ascii ": " ++ (fault_words p t ++ ascii "\n")))
