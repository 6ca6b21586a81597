-- Messages by their numbers: where they stand, and that their ends are among those of their location.
use Rattle.std.proofs.Common.{◌≡◌, ℕ, zero, suc, ℤ, ◌<◌, ◌≤◌, ◌^◌, ◌==◌, nat_lt, Bool, true, false, cond, List, [], ◌∷◌, ◌++◌, length, reverse, slice_get, Option, Some, None, option_map, All, refl, sym, ap, ◌∙◌, subst, arith, eqb-true, int_eq}
use Rattle.std.proofs.lemmas.List.{reverse-append, reverse-reverse, length-reverse}
use Rattle.std.proofs.lemmas.List.Elements.{All-cons, All-head, All-tail}
use Rattle.std.proofs.lemmas.Bool.Decides.{Decides-int_eq}
use Rattle.std.proofs.lemmas.Bool.{eqb-false}
use Rattle.fsl_mem.specs.declared.slots.Slot.{Slot}
use Rattle.fsl_mem.specs.declared.slots.Source.{Source}
use Rattle.fsl_mem.specs.declared.slots.Source.TheVariants as source
use Rattle.fsl_mem.specs.declared.message.Message.{Message}
use Rattle.fsl_mem.specs.Slots.{message, slots, insert_slot}
use Rattle.fsl_mem.specs.Candidates.{IsBounded, IsSourceAt, end_in, end_of}

get_last : (xs : List Message) (m : Message) (n : ℕ) → n ≡ length xs → slice_get (xs ++ m ∷ []) n ≡ Some m
get_last [] m zero is = refl
get_last [] m (suc n) is = absurd (omega arith)
get_last (x ∷ xs) m zero is = absurd (omega arith)
get_last (x ∷ xs) m (suc n) is = get_last xs m n (omega arith)

get_other : (xs : List Message) (m : Message) (n : ℕ) → (n ≡ length xs → ⊥) → slice_get (xs ++ m ∷ []) n ≡ slice_get xs n
get_other [] m zero apart = absurd (apart refl)
get_other [] m (suc n) apart = refl
get_other (x ∷ xs) m zero apart = refl
get_other (x ∷ xs) m (suc n) apart = get_other xs m n (λ same. apart (omega arith))

by_test : (b : Bool) (n k : ℕ) → (n == k) ≡ b → (m : Message) (o : Option Message) (rest : Option Message)
    → (n ≡ k → o ≡ Some m) → ((n ≡ k → ⊥) → o ≡ rest) → cond b (Some m) rest ≡ o
by_test true n k test m o rest yes' no' = sym (yes' (eqb-true n k test))
by_test false n k test m o rest yes' no' = sym (no' (eqb-false n k test))

-- the newest first is the list turned round
message_get : (ms : List Message) (n : ℕ) → message ms n ≡ slice_get (reverse ms) n
message_get [] n = refl
message_get (m ∷ ms) n =
    by_test (n == length ms) n (length ms) refl m (slice_get (reverse ms ++ m ∷ []) n) (message ms n)
    (λ same. get_last (reverse ms) m n (same ∙ sym (length-reverse ms)))
    (λ apart. get_other (reverse ms) m n (λ same. apart (same ∙ length-reverse ms)) ∙ sym (message_get ms n))
    ∙ ap (λ (xs : List Message). slice_get xs n) (sym (reverse-append (m ∷ []) ms))

pub message_item : (items : List Message) (n : ℕ) → message (reverse items) n ≡ slice_get items n
message_item items n = message_get (reverse items) n ∙ ap (λ (xs : List Message). slice_get xs n) (reverse-reverse items)

within_test : (b : Bool) (n k : ℕ) → (n == k) ≡ b → (m x : Message) (rest : Option Message)
    → cond b (Some x) rest ≡ Some m → (rest ≡ Some m → n < k) → n < suc k
within_test true n k test m x rest is later = let same = eqb-true n k test in omega arith
within_test false n k test m x rest is later = let lt = later is in omega arith

pub message_within : (ms : List Message) (n : ℕ) (m : Message) → message ms n ≡ Some m → n < length ms
message_within [] n m is = cc
message_within (x ∷ ms) n m is =
    within_test (n == length ms) n (length ms) refl m x (message ms n) is (message_within ms n m)

-- the message that a source names
found : (l : ℤ) (o : Option Message) → option_map (λ (m : Message). m.loc) o ≡ Some l → (m : Message) × (o ≡ Some m) × (m.loc ≡ l)
found l None h = cc
found l (Some m) h = (m, refl, cc)

pub source_within : (ms : List Message) (l : ℤ) (src : Source) (n : ℕ) → src ≡ source.Message n → IsSourceAt ms l src → n < length ms
source_within ms l src n is h =
    let at = found l (message ms n) (subst (IsSourceAt ms l) is h) in message_within ms n at.0 at.1

abbrev IsLow : Slot → Type 0
IsLow s = s.gap.to ≤ 2 ^ 63

inserted_test : (b : Bool) (s t : Slot) (ts more : List Slot) → IsBounded (cond b (s ∷ (t ∷ ts)) (t ∷ more))
    → (IsBounded more → IsLow s × IsBounded ts) → IsLow s × IsBounded (t ∷ ts)
inserted_test true s t ts more h rest = (All-head IsLow s (t ∷ ts) h, All-tail IsLow s (t ∷ ts) h)
inserted_test false s t ts more h rest =
    let parts = rest (All-tail IsLow t more h) in
    (parts.0, All-cons IsLow t ts (All-head IsLow t more h) parts.1)

inserted_bounded : (s : Slot) (ss : List Slot) → IsBounded (insert_slot s ss) → IsLow s × IsBounded ss
inserted_bounded s [] h = (All-head IsLow s [] h, All-tail IsLow s [] h)
inserted_bounded s (t ∷ ts) h =
    inserted_test (nat_lt s.gap.to t.gap.to) s t ts (insert_slot s ts) h (inserted_bounded s ts)

newest_bounded : (b : Bool) (s : Slot) (ss : List Slot) → IsBounded (cond b (insert_slot s ss) ss) → IsBounded ss × (b ≡ true → IsLow s)
newest_bounded true s ss h = let parts = inserted_bounded s ss h in (parts.1, λ e. parts.0)
newest_bounded false s ss h = (h, λ e. cc)

bounded_test : (b c : Bool) (m x : Message) (rest : Option Message) → cond b (Some x) rest ≡ Some m
    → (x ≡ m → x.gap.to ≤ 2 ^ 63) → (rest ≡ Some m → m.gap.to ≤ 2 ^ 63) → m.gap.to ≤ 2 ^ 63
bounded_test true c m x rest is here later =
    let same : x ≡ m = cc in subst (λ (y : Message). y.gap.to ≤ 2 ^ 63) same (here same)
bounded_test false c m x rest is here later = later is

message_bounded : (ms : List Message) (l : ℤ) (n : ℕ) (m : Message) → IsBounded (slots ms l) → message ms n ≡ Some m → m.loc ≡ l
    → m.gap.to ≤ 2 ^ 63
message_bounded [] l n m h is at = cc
message_bounded (x ∷ ms) l n m h is at =
    let parts = newest_bounded (int_eq x.loc l) (record { gap = x.gap; number = length ms }) (slots ms l) h in
    bounded_test (n == length ms) true m x (message ms n) is
    (λ same. parts.1 ((Decides-int_eq x.loc l).1 (ap (λ (y : Message). y.loc) same ∙ at)))
    (λ older. message_bounded ms l n m parts.0 older at)

pub end_bounded : (ms : List Message) (l : ℤ) (src : Source) → IsBounded (slots ms l) → IsSourceAt ms l src → end_of ms src ≤ 2 ^ 63
end_bounded ms l source.Nothing h at = omega arith
end_bounded ms l (source.Message n) h named =
    let at = found l (message ms n) named in
    subst (λ (o : Option Message). end_in o ≤ 2 ^ 63) (sym at.1) (message_bounded ms l n at.0 h at.1 at.2)
