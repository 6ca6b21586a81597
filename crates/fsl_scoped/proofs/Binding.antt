-- What is seen behind an assertion: what was seen before it, and its binders.
use Rattle.std.proofs.Common.{◌≡◌, ◌⊎◌, inl, inr, ℕ, Bool, true, false, ◌&&◌, List, [], ◌∷◌, map, ap, ◌∙◌, sym, subst, refl}
use Rattle.std.proofs.lemmas.Bool.{and_parts}
use Rattle.fsl_core.specs.declared.assertion.Asrt.{Asrt}
use Rattle.fsl_core.specs.declared.assertion.Asrt.TheOpen.{Asrt-F}
use Rattle.fsl_core.specs.declared.assertion.Asrt.TheFolds.{ind-Asrt, map-Asrt, fold-roll-Asrt}
use Rattle.fsl_core.specs.declared.assertion.Pat.{Pat}
use Rattle.fsl_core.specs.declared.assertion.Pat.TheVariants as pat
use Rattle.fsl_core.specs.declared.scope.Scope.{Scope}
use Rattle.fsl_core.specs.declared.scope.Sight.{Sight}
use Rattle.fsl_core.specs.declared.scope.Sight.TheVariants as sight
use Rattle.fsl_core.specs.Scopes.{is_free, is_bank, sight_at, with_sight, reads, reads_all, tests, inst_reads, Scoped, still, all_fit, behind_all, pat_fits, bound, asrt_step, asrt_scoped}
use Rattle.fsl_scoped.specs.Assertions.{is_shared}
use Rattle.fsl_scoped.proofs.Lists.{set_cases}

-- ---- sights

pub free_is : (s : Sight) → is_free s ≡ true → s ≡ sight.Free
free_is sight.Free h = refl
free_is sight.Kept h = absurd (let d : false ≡ true = h in cc)
free_is sight.Given h = absurd (let d : false ≡ true = h in cc)
free_is sight.Bound h = absurd (let d : false ≡ true = h in cc)
free_is sight.Local h = absurd (let d : false ≡ true = h in cc)
free_is sight.Bank h = absurd (let d : false ≡ true = h in cc)
free_is sight.Either h = absurd (let d : false ≡ true = h in cc)

pub shared_not_free : (s : Sight) → is_shared s ≡ true → is_free s ≡ false
shared_not_free sight.Free h = absurd (let d : false ≡ true = h in cc)
shared_not_free sight.Kept h = refl
shared_not_free sight.Given h = refl
shared_not_free sight.Bound h = refl
shared_not_free sight.Local h = refl
shared_not_free sight.Bank h = refl
shared_not_free sight.Either h = refl

-- ---- scopes

-- what was seen is seen, and what may be bound may be or was
pub record Later (a b : Scope) : Type 0 where
  pub result : b.in_ensures ≡ a.in_ensures
  pub kept : (slot : ℕ) → is_free (sight_at a slot) ≡ false → sight_at b slot ≡ sight_at a slot
  pub freed : (slot : ℕ) → is_free (sight_at a slot) ≡ true → (sight_at b slot ≡ sight.Free) ⊎ (sight_at b slot ≡ sight.Bound)

pub later_same : (a : Scope) → Later a a
later_same a = record { result = refl; kept = λ slot h. refl; freed = λ slot h. inl (free_is (sight_at a slot) h) }

pub later_then : (a b c : Scope) → Later a b → Later b c → Later a c
later_then a b c h k = record {
  result = k.result ∙ h.result;
  kept = λ slot shut. let e = h.kept slot shut in k.kept slot (ap is_free e ∙ shut) ∙ e;
  freed = λ slot free. freed_then slot (h.freed slot free);
}
  where
    freed_then : (slot : ℕ) → (sight_at b slot ≡ sight.Free) ⊎ (sight_at b slot ≡ sight.Bound) → (sight_at c slot ≡ sight.Free) ⊎ (sight_at c slot ≡ sight.Bound)
    freed_then slot (inl e) = k.freed slot (ap is_free e)
    freed_then slot (inr e) = inr (k.kept slot (ap is_free e) ∙ e)

later_bound : (slot : ℕ) (a : Scope) → is_free (sight_at a slot) ≡ true → Later a (with_sight slot sight.Bound a)
later_bound slot a free = record {
  result = refl;
  kept = λ k shut. set_cases a.sights slot k sight.Bound sight.Kept (λ (z : Sight). z ≡ sight_at a k)
      (λ e. absurd (let d : is_free (sight_at a k) ≡ true = subst (λ (j : ℕ). is_free (sight_at a j) ≡ true) e free in cc)) (λ w. refl);
  freed = λ k open_. set_cases a.sights slot k sight.Bound sight.Kept (λ (z : Sight). (z ≡ sight.Free) ⊎ (z ≡ sight.Bound))
      (λ e. inr refl) (λ w. inl (free_is (sight_at a k) open_));
}

-- ---- assertions

-- it binds what it may, and makes nothing a variable of the body
pub record Binds (s : Scoped) : Type 0 where
  pub later : (a : Scope) → s.fits a ≡ true → Later a (s.behind a)
  pub local : (a : Scope) (slot : ℕ) → sight_at (s.behind a) slot ≡ sight.Local → sight_at a slot ≡ sight.Local
  pub outside : (a : Scope) → (s.behind a).in_ensures ≡ a.in_ensures

still_binds : (fits : Scope → Bool) → Binds (still fits)
still_binds fits = record { later = λ a h. later_same a; local = λ a slot h. h; outside = λ a. refl }

pat_later : (p : Pat) (a : Scope) → pat_fits a p ≡ true → Later a (bound p a)
pat_later pat.Any a h = later_same a
pat_later (pat.Bind slot) a h = later_bound slot a h
pat_later (pat.Is e) a h = later_same a

pat_local : (p : Pat) (a : Scope) (slot : ℕ) → sight_at (bound p a) slot ≡ sight.Local → sight_at a slot ≡ sight.Local
pat_local pat.Any a slot h = h
pat_local (pat.Bind k) a slot h = set_cases a.sights k slot sight.Bound sight.Kept (λ (z : Sight). z ≡ sight.Local → sight_at a slot ≡ sight.Local)
    (λ e l. absurd (let d : sight.Bound ≡ sight.Local = l in cc)) (λ w l. l) h
pat_local (pat.Is e) a slot h = h

pat_outside : (p : Pat) (a : Scope) → (bound p a).in_ensures ≡ a.in_ensures
pat_outside pat.Any a = refl
pat_outside (pat.Bind slot) a = refl
pat_outside (pat.Is e) a = refl

turn_later : {X A : Type 0} (b : X → A) (k : A → Scoped) → ((x : X) → Binds (k (b x))) → (xs : List X) (a : Scope)
    → all_fit (map k (map b xs)) a ≡ true → Later a (behind_all (map k (map b xs)) a)
turn_later b k each [] a h = later_same a
turn_later b k each (x ∷ xs) a h =
    let next = (k (b x)).behind a in
    let both = and_parts ((k (b x)).fits a) (all_fit (map k (map b xs)) next) h in
    later_then a next (behind_all (map k (map b xs)) next) ((each x).later a both.0) (turn_later b k each xs next both.1)

turn_local : {X A : Type 0} (b : X → A) (k : A → Scoped) → ((x : X) → Binds (k (b x))) → (xs : List X) (a : Scope) (slot : ℕ)
    → sight_at (behind_all (map k (map b xs)) a) slot ≡ sight.Local → sight_at a slot ≡ sight.Local
turn_local b k each [] a slot h = h
turn_local b k each (x ∷ xs) a slot h = (each x).local a slot (turn_local b k each xs ((k (b x)).behind a) slot h)

turn_outside : {X A : Type 0} (b : X → A) (k : A → Scoped) → ((x : X) → Binds (k (b x))) → (xs : List X) (a : Scope)
    → (behind_all (map k (map b xs)) a).in_ensures ≡ a.in_ensures
turn_outside b k each [] a = refl
turn_outside b k each (x ∷ xs) a = turn_outside b k each xs ((k (b x)).behind a) ∙ (each x).outside a

layer : {X A : Type 0} (b : X → A) (k : A → Scoped) → ((x : X) → Binds (k (b x))) → (l : Asrt-F X) → Binds (asrt_step (map-Asrt A Scoped k (map-Asrt X A b l)))
layer b k each Asrt-F.Emp = still_binds (λ a. true)
layer b k each (Asrt-F.Fact c) = still_binds (λ a. tests a c)
layer b k each (Asrt-F.Points at share p) = record {
  later = λ a h. pat_later p a (and_parts (reads a share) (pat_fits a p) (and_parts (reads a at) (reads a share && pat_fits a p) h).1).1;
  local = pat_local p;
  outside = pat_outside p;
}
layer b k each (Asrt-F.Init at) = still_binds (λ a. reads a at)
layer b k each (Asrt-F.Rel at inst) = still_binds (λ a. reads a at && inst_reads a inst)
layer b k each (Asrt-F.Acq at inst part out) = still_binds (λ a. reads a at && (inst_reads a inst && reads_all a out))
layer b k each (Asrt-F.RmwAcq at inst) = still_binds (λ a. reads a at && inst_reads a inst)
layer b k each (Asrt-F.Tok bank n) = still_binds (λ a. is_bank (sight_at a bank) && reads a n)
layer b k each (Asrt-F.Auth bank n) = still_binds (λ a. is_bank (sight_at a bank) && reads a n)
layer b k each (Asrt-F.Choice c x y) = still_binds (λ a. tests a c && ((k (b x)).fits a && (k (b y)).fits a))
layer b k each (Asrt-F.Up x) = still_binds (k (b x)).fits
layer b k each (Asrt-F.Down x) = still_binds (k (b x)).fits
layer b k each (Asrt-F.Both xs) = record {
  later = λ a h. turn_later b k each xs a h;
  local = λ a slot h. turn_local b k each xs a slot h;
  outside = λ a. turn_outside b k each xs a;
}

pub asrt_binds : (a : Asrt) → Binds (asrt_scoped a)
asrt_binds = ind-Asrt (λ a. Binds (asrt_scoped a))
    (λ x y is.
    subst (λ (s : Scoped). Binds s) (sym (fold-roll-Asrt Scoped asrt_step x))
    (subst (λ z. Binds (asrt_step (map-Asrt Asrt Scoped asrt_scoped z))) is (layer (λ e. e.0) asrt_scoped (λ e. e.1) y)))
