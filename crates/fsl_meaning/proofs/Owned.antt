-- Chunks and the parts of a heap that they stand for: the first one that fits, putting it back, taking it out, adding.
use Rattle.std.proofs.Common.{◌≡◌, ℕ, ◌+◌, ◌≤◌, Bool, true, false, nat_lt, List, [], ◌∷◌, ◌++◌, length, Option, Some, None, ℤ, if◌then◌else◌, inl, refl, ap, sym, subst, ◌∙◌, arith}
use Rattle.fsl_core.specs.declared.chunk.Chunk.{Chunk}
use Rattle.fsl_core.specs.declared.chunk.Chunk.TheVariants as chunk
use Rattle.fsl_core.specs.declared.verdict.Kind.{Kind}
use Rattle.fsl_core.specs.declared.verdict.Kind.TheVariants as kind
use Rattle.fsl_core.specs.logic.States.{State, goes, fails, demand_some}
use Rattle.fsl_core.specs.logic.Chunks.{Found, found, first, Reading, find_or, put, take, add}
use Rattle.fsl_lin.specs.Numbers.{Numbers}
use Rattle.fsl_meaning.specs.Means.{Grows}
use Rattle.fsl_meaning.specs.Heaps.{Key, Heap, Holds, Ground}
use Rattle.fsl_meaning.specs.States.{Stands, EachStands, Owns, All, Opened, Fits}
use Rattle.fsl_meaning.specs.Branches.{Lands, Lands as land, Tells}
use Rattle.fsl_meaning.proofs.Terms.{means_more, all_more, known_more}
use Rattle.fsl_meaning.proofs.Calculus.{lands_give, tells_on, tells_as, tells_look, tells_some}
use Rattle.fsl_meaning.proofs.Facts.{Lasts}

-- ---- later places of a path

pub stands_more : (g : Ground) {n m : ℕ} {v w : Numbers} (c : Chunk) (h : Heap) → Grows n v m w → Stands g n v c h → Stands g m w c h
stands_more g (chunk.Points rung at share value) h r o = record {
  loc = o.loc;
  amount = o.amount;
  at_is = means_more r o.at_is;
  share_is = means_more r o.share_is;
  some = o.some;
  value_is = known_more value (g.truth.value o.loc) r o.value_is;
  there = o.there;
}
stands_more g (chunk.Init rung at) h r o = record { loc = o.loc; at_is = means_more r o.at_is; known = o.known }
stands_more g (chunk.Rel at inv args) h r o = record { loc = o.loc; numbers = o.numbers; at_is = means_more r o.at_is; args_are = all_more r o.args_are; known = o.known }
stands_more g (chunk.Acq at inv args part out) h r o = record {
  loc = o.loc;
  numbers = o.numbers;
  excluded = o.excluded;
  at_is = means_more r o.at_is;
  args_are = all_more r o.args_are;
  out_are = all_more r o.out_are;
  known = o.known;
  within = o.within;
  there = o.there;
}
stands_more g (chunk.RmwAcq at inv args) h r o = record { loc = o.loc; numbers = o.numbers; at_is = means_more r o.at_is; args_are = all_more r o.args_are; known = o.known }
stands_more g (chunk.Tok bank count) h r o = record { number = o.number; amount = o.amount; bank_is = means_more r o.bank_is; count_is = means_more r o.count_is; there = o.there }
stands_more g (chunk.Auth bank count) h r o = record { number = o.number; bank_is = means_more r o.bank_is; count_is = means_more r o.count_is; there = o.there }

pub each_later : (g : Ground) {n m : ℕ} {v w : Numbers} (cs : List Chunk) (h : Heap) → Grows n v m w → EachStands g n v cs h → EachStands g m w cs h
each_later g [] h r o = tt
each_later g (c ∷ cs) h r o = (o.0, o.1, o.2, stands_more g c o.0 r o.3, each_later g cs o.1 r o.4)

pub owns_more : {g : Ground} {n m : ℕ} {v w : Numbers} {cs : List Chunk} {h : Heap} → Grows n v m w → Owns g n v cs h → Owns g m w cs h
owns_more {g = g} {cs = cs} {h = h} r o = record { each = each_later g cs h r o.each }

pub all_lasts : (g : Ground) (h : Heap) → Lasts (All g h)
all_lasts g h n m v w cs r o = owns_more r o

pub opened_lasts : (g : Ground) (before : List Chunk) (c : Chunk) (behind : List Chunk) (mine rest : Heap) → Lasts (Opened g before c behind mine rest)
opened_lasts g before c behind mine rest n m v w cs r o = record { list = o.list; stands = stands_more g c mine r o.stands; others = owns_more r o.others }

-- ---- more room

pub line_less : (a b c : ℕ) → a ≤ b → b ≤ c → a ≤ c
line_less a b c h k = omega arith

pub each_less : (g : Ground) (n : ℕ) (v : Numbers) (cs : List Chunk) (h more : Heap) → ((k : Key) → h k ≤ more k) → EachStands g n v cs h → EachStands g n v cs more
each_less g n v [] h more l o = tt
each_less g n v (c ∷ cs) h more l o = (o.0, o.1, (λ k. line_less (o.0 k + o.1 k) (h k) (more k) (o.2 k) (l k)), o.3, o.4)

pub owns_less : {g : Ground} {n : ℕ} {v : Numbers} {cs : List Chunk} {h : Heap} (more : Heap) → ((k : Key) → h k ≤ more k) → Owns g n v cs h → Owns g n v cs more
owns_less {g = g} {n = n} {v = v} {cs = cs} {h = h} more l o = record { each = each_less g n v cs h more l o.each }

pub fits_less : {g : Ground} {slots : List ℤ} {v : Numbers} {s : State} {h : Heap} (more : Heap) → ((k : Key) → h k ≤ more k) → Fits slots (All g h) v s → Fits slots (All g more) v s
fits_less more l f = record { one = f.one; facts = f.facts; env = f.env; owns = owns_less more l f.owns }

-- ---- one chunk with its part

pub record IsPulled (g : Ground) (n : ℕ) (v : Numbers) (c : Chunk) (others : List Chunk) (h : Heap) : Type 0 where
  pub mine : Heap
  pub rest : Heap
  pub holds : Holds mine rest h
  pub stands : Stands g n v c mine
  pub each : EachStands g n v others rest

line_pull : (m r h a b : ℕ) → m + r ≤ h → a + b ≤ r → a + (m + b) ≤ h
line_pull m r h a b j k = omega arith

line_all : (a b : ℕ) → a + b ≤ a + b
line_all a b = omega arith

pub pull : {g : Ground} {n : ℕ} {v : Numbers} (before : List Chunk) (c : Chunk) (behind : List Chunk) (h : Heap)
    → EachStands g n v (before ++ c ∷ behind) h → IsPulled g n v c (before ++ behind) h
pull [] c behind h o = record { mine = o.0; rest = o.1; holds = o.2; stands = o.3; each = o.4 }
pull (b ∷ bs) c behind h o =
    let p = pull bs c behind o.1 o.4 in
    record {
      mine = p.mine;
      rest = λ k. o.0 k + p.rest k;
      holds = λ k. line_pull (o.0 k) (o.1 k) (h k) (p.mine k) (p.rest k) (o.2 k) (p.holds k);
      stands = p.stands;
      each = (o.0, p.rest, (λ k. line_all (o.0 k) (p.rest k)), o.3, p.each);
    }

line_insert : (a r h m b : ℕ) → a + r ≤ h → m + b ≤ r → m + (a + b) ≤ h
line_insert a r h m b j k = omega arith

pub insert : (g : Ground) (n : ℕ) (v : Numbers) (before : List Chunk) (c : Chunk) (behind : List Chunk) (mine rest h : Heap) → Holds mine rest h
    → Stands g n v c mine → EachStands g n v (before ++ behind) rest → EachStands g n v (before ++ c ∷ behind) h
insert g n v [] c behind mine rest h holds s o = (mine, rest, holds, s, o)
insert g n v (b ∷ bs) c behind mine rest h holds s o = (
  o.0,
  (λ k. mine k + o.1 k),
  (λ k. line_insert (mine k) (rest k) (h k) (o.0 k) (o.1 k) (holds k) (o.2 k)),
  o.3,
  insert g n v bs c behind mine o.1 (λ k. mine k + o.1 k) (λ k. line_all (mine k) (o.1 k)) s o.4,
)

insert_last : (g : Ground) (n : ℕ) (v : Numbers) (cs : List Chunk) (c : Chunk) (mine rest h : Heap) → Holds mine rest h
    → Stands g n v c mine → EachStands g n v cs rest → EachStands g n v (cs ++ c ∷ []) h
insert_last g n v [] c mine rest h holds s o = (mine, rest, holds, s, o)
insert_last g n v (b ∷ bs) c mine rest h holds s o = (
  o.0,
  (λ k. mine k + o.1 k),
  (λ k. line_insert (mine k) (rest k) (h k) (o.0 k) (o.1 k) (holds k) (o.2 k)),
  o.3,
  insert_last g n v bs c mine o.1 (λ k. mine k + o.1 k) (λ k. line_all (mine k) (o.1 k)) s o.4,
)

-- ---- the first one that reads as something

pub record IsFirst {C X : Type 0} (reads : C → Option X) (cs : List C) (f : Found C X) : Type 0 where
  pub item : C
  pub list : cs ≡ f.before ++ item ∷ f.behind
  pub reads_as : reads item ≡ Some f.is

found_is : {C X : Type 0} (reads : C → Option X) (c : C) (cs : List C) (f : Found C X) (o : Option X) → reads c ≡ o → (later : Option (Found C X))
    → ((q : Found C X) → later ≡ Some q → IsFirst reads cs q) → found o c cs later ≡ Some f → IsFirst reads (c ∷ cs) f
found_is {C = C} {X = X} reads c cs f (Some x) e later k h =
    let m : Found C X = record { before = []; is = x; behind = cs } in
    let same : m ≡ f = cc in
    subst (λ (q : Found C X). IsFirst reads (c ∷ cs) q) same (record { item = c; list = refl; reads_as = e })
found_is reads c cs f None e None k h = absurd (let d : None ≡ Some f = h in cc)
found_is {C = C} {X = X} reads c cs f None e (Some q) k h =
    let i = k q refl in
    let m : Found C X = record { before = c ∷ q.before; is = q.is; behind = q.behind } in
    let same : m ≡ f = cc in
    subst (λ (z : Found C X). IsFirst reads (c ∷ cs) z) same (record { item = i.item; list = ap (λ (zs : List C). c ∷ zs) i.list; reads_as = i.reads_as })

pub first_is : {C X : Type 0} (reads : C → Option X) (cs : List C) (f : Found C X) → first reads cs ≡ Some f → IsFirst reads cs f
first_is reads [] f h = absurd (let d : None ≡ Some f = h in cc)
first_is reads (c ∷ cs) f h = found_is reads c cs f (reads c) refl (first reads cs) (first_is reads cs) h

-- ---- states with one chunk apart

-- a chunk was found, and stands for a part of h apart from the others
pub record IsOut {X : Type 0} (g : Ground) (slots : List ℤ) (v : Numbers) (s : State) (reads : Reading X) (h : Heap) (f : Found Chunk X) : Type 0 where
  pub item : Chunk
  pub reads_as : reads s.facts item ≡ Some f.is
  pub mine : Heap
  pub rest : Heap
  pub holds : Holds mine rest h
  pub fits : Fits slots (Opened g f.before item f.behind mine rest) v s

pub out_of : {X : Type 0} {g : Ground} {slots : List ℤ} {v : Numbers} {s : State} {h : Heap} (reads : Reading X) (f : Found Chunk X) → Fits slots (All g h) v s
    → first (reads s.facts) s.chunks ≡ Some f → IsOut g slots v s reads h f
out_of {g = g} {v = v} {s = s} {h = h} reads f fit e =
    let i = first_is (reads s.facts) s.chunks f e in
    let o : EachStands g s.next v (f.before ++ i.item ∷ f.behind) h = subst (λ (cs : List Chunk). EachStands g s.next v cs h) i.list fit.owns.each in
    let p = pull f.before i.item f.behind h o in
    record {
      item = i.item;
      reads_as = i.reads_as;
      mine = p.mine;
      rest = p.rest;
      holds = p.holds;
      fits = record { one = fit.one; facts = fit.facts; env = fit.env; owns = record { list = i.list; stands = p.stands; others = record { each = p.each } } };
    }

pub tells_find_or : {X : Type 0} {g : Ground} {slots : List ℤ} {v : Numbers} {s : State} {h : Heap} (why : Kind) (reads : Reading X) → Fits slots (All g h) v s
    → Tells s (λ f. IsOut g slots v s reads h f) (find_or why reads s)
tells_find_or {X = X} {s = s} why reads fit =
    tells_on (demand_some why) (tells_look (λ (t : State). first (reads t.facts) t.chunks)) (λ o e. tells_as (tells_some why o) (λ f i. out_of reads f fit (sym e ∙ i)))

pub fits_back : {g : Ground} {slots : List ℤ} {v : Numbers} {s : State} {before behind : List Chunk} {c : Chunk} {mine rest : Heap} (h : Heap)
    → Fits slots (Opened g before c behind mine rest) v s → Holds mine rest h → Fits slots (All g h) v s
fits_back {g = g} {v = v} {s = s} {before = before} {behind = behind} {c = c} {mine = mine} {rest = rest} h f holds = record {
  one = f.one;
  facts = f.facts;
  env = f.env;
  owns = record { each = subst (λ (cs : List Chunk). EachStands g s.next v cs h) (sym f.owns.list) (insert g s.next v before c behind mine rest h holds f.owns.stands f.owns.others.each) };
}

-- another chunk in its place
pub lands_put : {X : Type 0} {g : Ground} {slots : List ℤ} {v : Numbers} {s : State} {item : Chunk} {mine rest : Heap} (f : Found Chunk X) (c : Chunk) (new h : Heap)
    → Fits slots (Opened g f.before item f.behind mine rest) v s → Stands g s.next v c new → Holds new rest h
    → Lands s.next v (λ u t w. Fits slots (All g h) w t) (put f c s)
lands_put {g = g} {v = v} {s = s} {rest = rest} f c new h fit stands holds = lands_give tt (record s { chunks = f.before ++ c ∷ f.behind }) (record {
  one = fit.one;
  facts = fit.facts;
  env = fit.env;
  owns = record { each = insert g s.next v f.before c f.behind new rest h holds stands fit.owns.others.each };
})

-- it goes
pub lands_take : {X : Type 0} {g : Ground} {slots : List ℤ} {v : Numbers} {s : State} {item : Chunk} {mine rest : Heap} (f : Found Chunk X)
    → Fits slots (Opened g f.before item f.behind mine rest) v s → Lands s.next v (λ u t w. Fits slots (All g rest) w t) (take f s)
lands_take {s = s} f fit = lands_give tt (record s { chunks = f.before ++ f.behind }) (record { one = fit.one; facts = fit.facts; env = fit.env; owns = fit.owns.others })

add_by : {g : Ground} {slots : List ℤ} {v : Numbers} {s : State} {h : Heap} (c : Chunk) (mine more : Heap) → Fits slots (All g h) v s → Stands g s.next v c mine → Holds mine h more
    → (few : Bool) → Lands s.next v (λ u t w. Fits slots (All g more) w t) (if few then goes (tt {0}) (record s { chunks = s.chunks ++ c ∷ [] }) ∷ [] else fails kind.Chunks ∷ [])
add_by {g = g} {v = v} {s = s} {h = h} c mine more fit stands holds true = lands_give tt (record s { chunks = s.chunks ++ c ∷ [] }) (record {
  one = fit.one;
  facts = fit.facts;
  env = fit.env;
  owns = record { each = insert_last g s.next v s.chunks c mine h more holds stands fit.owns.each };
})
add_by c mine more fit stands holds false = land.stops kind.Chunks (inl refl)

-- one more
pub lands_add : {g : Ground} {slots : List ℤ} {v : Numbers} {s : State} {h : Heap} (c : Chunk) (mine more : Heap) → Fits slots (All g h) v s → Stands g s.next v c mine → Holds mine h more
    → Lands s.next v (λ u t w. Fits slots (All g more) w t) (add c s)
lands_add {s = s} c mine more fit stands holds = add_by c mine more fit stands holds (nat_lt (length s.chunks) 512)
