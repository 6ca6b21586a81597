-- Allocations of atomic locations, by parts of the rule.
use Rattle.std.proofs.Common.{◌≡◌, ◌<◌, ◌≤◌, ℕ, ◌+◌, Bool, true, false, List, [], ◌∷◌, ◌++◌, length, get_or, drop, map, slice_get, Option, Some, None, nat_lt, refl, sym, ap, ◌∙◌, length-append}
use Rattle.std.proofs.Math.ListN.{drop_of_length-le}
use Rattle.fsl_core.specs.declared.assertion.Asrt.{Asrt}
use Rattle.fsl_core.specs.declared.chunk.Chunk.{Chunk}
use Rattle.fsl_core.specs.declared.chunk.Chunk.TheVariants as chunk
use Rattle.fsl_core.specs.declared.declaration.Inv.{Inv}
use Rattle.fsl_core.specs.declared.verdict.Kind.{Kind}
use Rattle.fsl_core.specs.Programs.{Program}
use Rattle.fsl_core.specs.logic.States.{State, goes, fails, Branches, ◌>>=◌, ◌>>◌, new_symbol}
use Rattle.fsl_core.specs.logic.Terms.{terms}
use Rattle.fsl_core.specs.logic.Chunks.{add, Leave, leave}
use Rattle.fsl_core.specs.logic.Producing.{Instance}
use Rattle.fsl_core.specs.logic.Assertions.{asrt_of}
use Rattle.fsl_core.specs.logic.Locations.{Setting, setting_of, Invariant, parts_of}
use Rattle.fsl_core.specs.logic.Accesses.{alloc_at, add_leave, add_permissions}
use Rattle.fsl_lin.specs.Combination.{Combination}
use Rattle.fsl_asrt.proofs.Laws.{from_here, then_goes, then_fails}
use Rattle.fsl_asrt.proofs.WalkLemmas.{next_item}
use Rattle.fsl_access.proofs.AccessesLemmas.{address_then, at_least_one}
use Rattle.fsl_access.proofs.SettingLemmas.{invariant_at}
use Rattle.fsl_access.specs.Located.{located, based, new_location}

-- ---- the arguments, and then the address

pub read_location : (p : Setting) (slot : ℕ) (rmw : Bool) (inst : Instance) (s : State) (ts : List Combination) → goes ts s ∷ [] ≡ terms inst.args s.env s
    → alloc_at p slot rmw inst s ≡ new_location p slot rmw inst.inv ts s
read_location p slot rmw inst s ts h =
    from_here (λ env. terms inst.args env >>= new_location p slot rmw inst.inv) s
    ∙ then_goes (terms inst.args s.env s) ts s (new_location p slot rmw inst.inv) h

pub not_located : (p : Setting) (slot : ℕ) (rmw : Bool) (inst : Instance) (s : State) (k : Kind) → fails k ∷ [] ≡ terms inst.args s.env s
    → alloc_at p slot rmw inst s ≡ fails k ∷ []
not_located p slot rmw inst s k h =
    from_here (λ env. terms inst.args env >>= new_location p slot rmw inst.inv) s
    ∙ then_fails (terms inst.args s.env s) (new_location p slot rmw inst.inv) k h

pub location_goes : (p : Setting) (slot : ℕ) (rmw : Bool) (inv : ℕ) (args : List Combination) (s t : State) (d : Combination)
    → goes d t ∷ [] ≡ new_symbol s → new_location p slot rmw inv args s ≡ based p slot rmw (leave d inv args) t
location_goes p slot rmw inv args s t d h =
    address_then s (λ x. located p slot rmw (leave x inv args))
    ∙ then_goes (new_symbol s) d t (λ x. at_least_one x >> located p slot rmw (leave x inv args)) h

pub location_fails : (p : Setting) (slot : ℕ) (rmw : Bool) (inv : ℕ) (args : List Combination) (s : State) (k : Kind)
    → fails k ∷ [] ≡ new_symbol s → new_location p slot rmw inv args s ≡ fails k ∷ []
location_fails p slot rmw inv args s k h =
    address_then s (λ x. located p slot rmw (leave x inv args))
    ∙ then_fails (new_symbol s) (λ x. at_least_one x >> located p slot rmw (leave x inv args)) k h

-- ---- leave to acquire each part

pub parts_found : (p : Program) (l : Leave) (s : State) (inv : Inv) → Some inv ≡ slice_get p.invs l.inv
    → add_leave (setting_of asrt_of p) false l s ≡ add_permissions l 0 (map asrt_of inv.parts) s
parts_found p l s inv h =
    ap (λ (o : Option Invariant). add_permissions l 0 (parts_of o) s) (invariant_at p l.inv (Some inv) h)

pub parts_lack : (p : Program) (l : Leave) (s : State) → None ≡ slice_get p.invs l.inv → add_leave (setting_of asrt_of p) false l s ≡ goes tt s ∷ []
parts_lack p l s h = ap (λ (o : Option Invariant). add_permissions l 0 (parts_of o) s) (invariant_at p l.inv None h)

pub permissions_more : (l : Leave) (part i : ℕ) (parts : List Asrt) (a : Asrt) (s t : State) (whole : Branches (Unit {0})) → i < length parts → a ≡ get_or parts i a
    → goes tt t ∷ [] ≡ add (chunk.Acq l.at l.inv l.args part []) s → add_permissions l part (map asrt_of (drop i parts)) s ≡ whole
    → add_permissions l (part + 1) (map asrt_of (drop (i + 1) parts)) t ≡ whole
permissions_more l part i parts a s t whole below is h so =
    sym (then_goes (add (chunk.Acq l.at l.inv l.args part []) s) tt t (λ _. add_permissions l (part + 1) (map asrt_of (drop (i + 1) parts))) h)
    ∙ ap (λ (xs : List Asrt). add_permissions l part (map asrt_of xs) s) (sym (next_item parts i a below is)) ∙ so

pub permissions_fail : (l : Leave) (part i : ℕ) (parts : List Asrt) (a : Asrt) (s : State) (k : Kind) (whole : Branches (Unit {0})) → i < length parts → a ≡ get_or parts i a
    → fails k ∷ [] ≡ add (chunk.Acq l.at l.inv l.args part []) s → add_permissions l part (map asrt_of (drop i parts)) s ≡ whole
    → fails k ∷ [] ≡ whole
permissions_fail l part i parts a s k whole below is h so =
    sym (then_fails (add (chunk.Acq l.at l.inv l.args part []) s) (λ _. add_permissions l (part + 1) (map asrt_of (drop (i + 1) parts))) k h)
    ∙ ap (λ (xs : List Asrt). add_permissions l part (map asrt_of xs) s) (sym (next_item parts i a below is)) ∙ so

pub permissions_end : (l : Leave) (part i : ℕ) (parts : List Asrt) (s : State) (whole : Branches (Unit {0})) → length parts ≤ i
    → add_permissions l part (map asrt_of (drop i parts)) s ≡ whole → goes tt s ∷ [] ≡ whole
permissions_end l part i parts s whole past so =
    ap (λ (xs : List Asrt). add_permissions l part (map asrt_of xs) s) (sym (drop_of_length-le parts past)) ∙ so

-- a chunk that is added is one more, and there is always a branch
longer_by : (c : Chunk) (s t : State) (room : Bool) → nat_lt (length s.chunks) 512 ≡ room → goes tt t ∷ [] ≡ add c s
    → length t.chunks ≡ length s.chunks + 1
longer_by c s t true e h =
    let same : goes tt t ∷ [] ≡ goes tt (record s { chunks = s.chunks ++ c ∷ [] }) ∷ [] = rw e at h in
    let u : t ≡ record s { chunks = s.chunks ++ c ∷ [] } = cc in
    ap (λ (x : State). length x.chunks) u ∙ length-append s.chunks (c ∷ [])
longer_by c s t false e h = absurd (let same : goes tt t ∷ [] ≡ fails _ ∷ [] = rw e at h in cc)

pub one_longer : (c : Chunk) (s t : State) → goes tt t ∷ [] ≡ add c s → length t.chunks ≡ length s.chunks + 1
one_longer c s t h = longer_by c s t (nat_lt (length s.chunks) 512) refl h

some_by : (c : Chunk) (s : State) (room : Bool) → nat_lt (length s.chunks) 512 ≡ room → [] ≡ add c s → ⊥
some_by c s true e h = let same : [] ≡ goes tt (record s { chunks = s.chunks ++ c ∷ [] }) ∷ [] = rw e at h in cc
some_by c s false e h = let same : [] ≡ fails _ ∷ [] = rw e at h in cc

pub adds_some : (c : Chunk) (s : State) → [] ≡ add c s → ⊥
adds_some c s h = some_by c s (nat_lt (length s.chunks) 512) refl h
