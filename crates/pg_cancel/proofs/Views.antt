-- What seats know of the history, as it is and with one entry more.
use Rattle.std.proofs.Common.{◌≡◌, ◌≢◌, ◌⊎◌, ℕ, zero, suc, ◌+◌, ◌<◌, Bool, true, false, List, [], ◌∷◌, ◌++◌, length, set, Option, Some, None, inl, inr, ⊎_elim, sym, refl, ap, ◌∙◌, subst, arith, length-append, eq-eqb, ne_eqb}
use Rattle.std.proofs.lemmas.List.{append-nil}
use Rattle.std.proofs.lemmas.List.Elements.{filter-append}
use Rattle.std.specs.Prelude.{◌==◌}
use mathlib.Core.Option.{some, some-injective}
use mathlib.Core.List.{IsPrefix}
use lib.ListN.{get_elem?}
use Rattle.atomic_table.proofs.Lists.{at_set}
use Rattle.pg_cancel.specs.declared.entries.Entry.{Entry}
use Rattle.pg_cancel.specs.declared.entries.RegistryCall.{RegistryCall}
use Rattle.pg_cancel.specs.declared.entries.RegistryCall.TheVariants.{Register, Start, Ask, Cancel, Narrow, Unregister}
use Rattle.pg_cancel.specs.declared.entries.RegistryAnswer.{RegistryAnswer}
use Rattle.pg_cancel.specs.declared.entries.RegistryAnswer.TheVariants.{Registered, Taken}
use Rattle.pg_cancel.specs.declared.seat.View.{View}
use Rattle.pg_cancel.specs.LegalHistory.{IsLegal, IsLive, IsAnswer, entry_of}
use Rattle.pg_cancel.specs.Connections.{calls_of, is_register, registers_of}
use Rattle.pg_cancel.specs.RosterTable.{Fits, IsApart, MayMake, reader, holding, idle, called, entered, refused, grown}
use Rattle.pg_cancel.proofs.Histories.{live_keeps}
use Rattle.pg_cancel.proofs.Prefixes.{prefix_self, prefix_longer}
use Rattle.pg_cancel.proofs.Beginnings.{calls_fresh}

-- what fits a view fits one that differs in what it was told and in the turn
pub refit : (log : List Entry) (v w : View) → Fits log v → w.seen ≡ v.seen → IsPrefix w.told w.seen → w.number ≡ v.number
    → w.mine ≡ v.mine → w.is_live ≡ v.is_live → w.is_door ≡ v.is_door → Fits log w
refit log v w f seen told number mine live door = record {
  seen = subst (λ x. IsPrefix x log) (sym seen) f.seen;
  told = told;
  own = λ n is. let o = f.own n (sym number ∙ is) in record {
    known = o.known;
    live = λ yes. o.live (sym live ∙ yes);
    all = o.all ∙ sym mine;
    seen = ap (λ x. calls_of n x) seen ∙ (o.seen ∙ sym mine);
  };
  door = λ yes. f.door (sym door ∙ yes) ∙ ap (λ x. registers_of x) (sym seen);
}

pub holding_fits : (log h : List Entry) (v : View) → Fits log v → Fits log (holding v h)
holding_fits log h v f = refit log v (holding v h) f refl f.told refl refl refl refl

pub idle_fits : (log : List Entry) (v : View) → Fits log v → Fits log (idle v)
idle_fits log v f = refit log v (idle v) f refl f.told refl refl refl refl

pub false_true : {X : Type 0} → false ≡ true → X
false_true e = absurd (cc (e))

pub none_some : {X A : Type 0} (x : A) → ◌≡◌ {A = Option A} None (Some x) → X
none_some x e = absurd (cc (e))

pub reader_fits : (log seen : List Entry) → IsPrefix seen log → Fits log (reader seen)
reader_fits log seen p = record {
  seen = p;
  told = (seen, refl);
  own = λ n is. none_some n is;
  door = λ yes. false_true yes;
}

was_door : (views : List View) (id : ℕ) (v w : View) → get_elem? views id ≡ some v → w.is_door ≡ v.is_door
    → (j : ℕ) (a : View) → get_elem? (set views id w) j ≡ some a → a.is_door ≡ true
    → (b : View) × (get_elem? views j ≡ some b) × (b.is_door ≡ true)
was_door views id v w at door j a e is_yes = ⊎_elim
    (λ t. (v, subst (λ i. get_elem? views i ≡ some v) (sym t.0) at, sym door ∙ (ap (λ (u : View). u.is_door) t.1 ∙ is_yes)))
    (λ t. (a, t.1, is_yes))
    (at_set views id j w a e)

-- one view changed: it is no other door, and no other seat has its number
pub apart_set : (views : List View) (id : ℕ) (v w : View) → get_elem? views id ≡ some v → w.is_door ≡ v.is_door
    → ((n : ℕ) → w.number ≡ Some n → (j : ℕ) (a : View) → j ≢ id → get_elem? views j ≡ some a → a.number ≢ Some n) → IsApart views
    → IsApart (set views id w)
apart_set views id v w at door own apart = record {
  numbers = λ j k n a b at_j at_k is_a is_b. ⊎_elim
      (λ s. ⊎_elim
      (λ t. s.0 ∙ sym t.0)
      (λ t. absurd (own n (ap (λ (u : View). u.number) s.1 ∙ is_a) k b t.0 t.1 is_b))
      (at_set views id k w b at_k))
      (λ s. ⊎_elim
      (λ t. absurd (own n (ap (λ (u : View). u.number) t.1 ∙ is_b) j a s.0 s.1 is_a))
      (λ t. apart.numbers j k n a b s.1 t.1 is_a is_b)
      (at_set views id k w b at_k))
      (at_set views id j w a at_j);
  doors = λ j k a b at_j at_k is_a is_b.
      let x = was_door views id v w at door j a at_j is_a in
      let y = was_door views id v w at door k b at_k is_b in
      apart.doors j k x.0 y.0 x.1 y.1 x.2 y.2;
}

-- the same where the number stays
pub apart_same : (views : List View) (id : ℕ) (v w : View) → get_elem? views id ≡ some v → w.is_door ≡ v.is_door → w.number ≡ v.number
    → IsApart views → IsApart (set views id w)
apart_same views id v w at door number apart =
    apart_set views id v w at door (λ n is j a other e same. other (apart.numbers j id n a v e at same (sym number ∙ is))) apart

-- the same where there is none
pub apart_none : (views : List View) (id : ℕ) (v w : View) → get_elem? views id ≡ some v → w.is_door ≡ v.is_door → w.number ≡ None
    → IsApart views → IsApart (set views id w)
apart_none views id v w at door number apart = apart_set views id v w at door (λ n is. none_some n (sym number ∙ is)) apart

pub at_end : {A : Type 0} (l : List A) (a b : A) (j : ℕ) → get_elem? (l ++ a ∷ []) j ≡ some b
    → (get_elem? l j ≡ some b) ⊎ ((j ≡ length l) × (a ≡ b))
at_end [] a b zero e = inr (refl, some-injective a b e)
at_end [] a b (suc j) e = absurd (cc (e))
at_end (x ∷ xs) a b zero e = inl e
at_end (x ∷ xs) a b (suc j) e = ⊎_elim (λ t. inl t) (λ t. inr (ap suc t.0, t.1)) (at_end xs a b j e)

-- one view more: it is no door, and no other seat has its number
pub apart_more : (views : List View) (w : View) → w.is_door ≡ false
    → ((n : ℕ) → w.number ≡ Some n → (j : ℕ) (a : View) → get_elem? views j ≡ some a → a.number ≢ Some n) → IsApart views
    → IsApart (views ++ w ∷ [])
apart_more views w door own apart = record {
  numbers = λ j k n a b at_j at_k is_a is_b. ⊎_elim
      (λ s. ⊎_elim
      (λ t. apart.numbers j k n a b s t is_a is_b)
      (λ t. absurd (own n (ap (λ (u : View). u.number) t.1 ∙ is_b) j a s is_a))
      (at_end views w b k at_k))
      (λ s. ⊎_elim
      (λ t. absurd (own n (ap (λ (u : View). u.number) s.1 ∙ is_a) k b t is_b))
      (λ t. s.0 ∙ sym t.0)
      (at_end views w b k at_k))
      (at_end views w a j at_j);
  doors = λ j k a b at_j at_k is_a is_b. ⊎_elim
      (λ s. ⊎_elim
      (λ t. apart.doors j k a b s t is_a is_b)
      (λ t. false_true (sym door ∙ (ap (λ (u : View). u.is_door) t.1 ∙ is_b)))
      (at_end views w b k at_k))
      (λ s. false_true (sym door ∙ (ap (λ (u : View). u.is_door) s.1 ∙ is_a)))
      (at_end views w a j at_j);
}

-- a seat's view is among the views
pub seat_inside : (views : List View) (id : ℕ) (v : View) → get_elem? views id ≡ some v → id < length views
seat_inside [] id v at = absurd (cc (at))
seat_inside (x ∷ xs) zero v at = omega arith
seat_inside (x ∷ xs) (suc id) v at = let r = seat_inside xs id v at in omega arith

-- what the other seats know stays so, and the views stay apart
abbrev pub KeepsOthers : ℕ → View → View → List Entry → List Entry → Type 0
KeepsOthers id v w before after =
    (views : List View) → get_elem? views id ≡ some v → IsApart views → ((j : ℕ) (a : View) → get_elem? views j ≡ some a → Fits before a)
    → IsApart (set views id w) × ((j : ℕ) (a : View) → j ≢ id → get_elem? views j ≡ some a → Fits after a)

-- ---- one more entry

calls_one : (n : ℕ) (e : Entry) → e.number ≡ n → calls_of n (e ∷ []) ≡ e ∷ []
calls_one n e is = rw (eq-eqb e.number n is) refl

calls_none : (n : ℕ) (e : Entry) → e.number ≢ n → calls_of n (e ∷ []) ≡ []
calls_none n e not = rw (ne_eqb e.number n not) refl

registers_none : (e : Entry) → is_register e.call ≡ false → registers_of (e ∷ []) ≡ []
registers_none e not = rw not refl

-- what another seat knows stays so
other_after : (w : View) (before : List Entry) (e : Entry) → Fits before w → ((n : ℕ) → w.number ≡ Some n → e.number ≢ n)
    → (w.is_door ≡ true → is_register e.call ≡ false) → Fits (before ++ e ∷ []) w
other_after w before e f other quiet = record {
  seen = prefix_longer w.seen before e f.seen;
  told = f.told;
  own = λ n has.
      let o = f.own n has in
      let more : length (before ++ e ∷ []) ≡ length before + 1 = length-append before (e ∷ []) in
      let known = o.known in record {
        known = omega arith;
        live = λ yes. let l = o.live yes in (l.0, l.1, live_keeps before e n l.0 l.1 (λ ends. other n has ends.0) l.2);
        all = filter-append (λ (x : Entry). x.number == n) before (e ∷ [])
            ∙ (ap (λ h. h ++ calls_of n (e ∷ [])) o.all ∙ (ap (λ h. w.mine ++ h) (calls_none n e (other n has)) ∙ append-nil w.mine));
        seen = o.seen;
      };
  door = λ yes. filter-append (λ (x : Entry). is_register x.call) before (e ∷ [])
      ∙ (ap (λ h. registers_of before ++ h) (registers_none e (quiet yes)) ∙ (append-nil (registers_of before) ∙ f.door yes));
}

-- a call of the seat's number, which is no Register
pub record Adds (v : View) (e : Entry) : Type 0 where
  pub number : v.number ≡ Some e.number
  pub quiet : is_register e.call ≡ false

pub called_fits : (live : Bool) (v : View) (before : List Entry) (e : Entry) → Fits before v → Adds v e
    → (live ≡ true → IsLive (before ++ e ∷ []) e.number) → Fits (before ++ e ∷ []) (called live v before e)
called_fits live v before e f a is_live = record {
  seen = prefix_self (before ++ e ∷ []);
  told = (before ++ e ∷ [], refl);
  own = λ n is.
      let number : e.number ≡ n = (let same : ◌≡◌ {A = Option ℕ} (Some e.number) (Some n) = sym a.number ∙ is in cc (same)) in
      let o = f.own n is in
      let longer : length (before ++ e ∷ []) ≡ length before + 1 = length-append before (e ∷ []) in
      let known = o.known in
      let all : calls_of n (before ++ e ∷ []) ≡ v.mine ++ e ∷ [] = filter-append (λ (x : Entry). x.number == n) before (e ∷ [])
      ∙ (ap (λ h. h ++ calls_of n (e ∷ [])) o.all ∙ ap (λ h. v.mine ++ h) (calls_one n e number)) in
      record { known = omega arith; live = λ yes. subst (λ k. IsLive (before ++ e ∷ []) k) number (is_live yes); all = all; seen = all };
  door = λ yes. refl;
}

called_keeps : (live : Bool) (id : ℕ) (v : View) (before : List Entry) (e : Entry) → Adds v e
    → KeepsOthers id v (called live v before e) before (before ++ e ∷ [])
called_keeps live id v before e a views at apart fits = (
  apart_same views id v (called live v before e) at refl refl apart,
  λ j w other e_at. other_after w before e (fits j w e_at)
      (λ n has same. other (apart.numbers j id n w v e_at at has (a.number ∙ ap Some same))) (λ _. a.quiet),
)

-- a Register, by the door
pub record Enters (v : View) (before : List Entry) (e : Entry) : Type 0 where
  pub number : e.number ≡ length before
  pub door : v.is_door ≡ true

-- no other seat has the next place for its number, and none is a door
door_keeps : (id : ℕ) (v : View) (before : List Entry) (e : Entry) → Enters v before e → (views : List View) → get_elem? views id ≡ some v
    → IsApart views
    → ((j : ℕ) (a : View) → get_elem? views j ≡ some a → Fits before a)
    → (j : ℕ) (a : View) → j ≢ id → get_elem? views j ≡ some a → Fits (before ++ e ∷ []) a
door_keeps id v before e a views at apart fits j w other e_at =
    other_after w before e (fits j w e_at)
    (λ n has same. let known = ((fits j w e_at).own n has).known in let is = a.number in omega (arith, same))
    (λ yes. absurd (other (apart.doors j id w v e_at at yes a.door)))

refused_keeps : (id : ℕ) (v : View) (before : List Entry) (e : Entry) → Enters v before e
    → KeepsOthers id v (refused v before e) before (before ++ e ∷ [])
refused_keeps id v before e a views at apart fits = (
  apart_none views id v (refused v before e) at refl refl apart,
  door_keeps id v before e a views at apart fits,
)

refused_fits : (v : View) (before : List Entry) (e : Entry) → Fits (before ++ e ∷ []) (refused v before e)
refused_fits v before e = record {
  seen = prefix_self (before ++ e ∷ []);
  told = (before ++ e ∷ [], refl);
  own = λ n is. none_some n is;
  door = λ yes. refl;
}

entered_keeps : (id : ℕ) (v : View) (before : List Entry) (e : Entry) → Enters v before e
    → KeepsOthers id v (entered v before e) before (before ++ e ∷ [])
entered_keeps id v before e a views at apart fits = (
  apart_set views id v (entered v before e) at refl
      (λ n is j w other e_at has.
      let known = ((fits j w e_at).own n has).known in
      let number = a.number in
      let same : e.number ≡ n = (let x : ◌≡◌ {A = Option ℕ} (Some e.number) (Some n) = is in cc (x)) in omega (arith, same, number))
      apart,
  door_keeps id v before e a views at apart fits,
)

pub entered_fits : (v : View) (before : List Entry) (e : Entry) → Enters v before e → IsLegal before
    → IsLive (before ++ e ∷ []) (length before)
    → Fits (before ++ e ∷ []) (entered v before e)
entered_fits v before e a legal live = record {
  seen = prefix_self (before ++ e ∷ []);
  told = (before ++ e ∷ [], refl);
  own = λ n is.
      let number : e.number ≡ n = (let x : ◌≡◌ {A = Option ℕ} (Some e.number) (Some n) = is in cc (x)) in
      let same : length before ≡ n = sym a.number ∙ number in
      let longer : length (before ++ e ∷ []) ≡ length before + 1 = length-append before (e ∷ []) in
      let fresh : calls_of n before ≡ [] = subst (λ k. calls_of k before ≡ []) same (calls_fresh before legal) in
      let all : calls_of n (before ++ e ∷ []) ≡ e ∷ [] = filter-append (λ (x : Entry). x.number == n) before (e ∷ [])
      ∙ (ap (λ h. h ++ calls_of n (e ∷ [])) fresh ∙ calls_one n e number) in
      record {
        known = omega (arith, same, longer);
        live = λ yes. subst (λ k. IsLive (before ++ e ∷ []) k) same live;
        all = all;
        seen = all;
      };
  door = λ yes. refl;
}

-- ---- one event

-- what the registry says of the entry that it added
pub record Answered (before : List Entry) (number : ℕ) (call : RegistryCall) (answer : RegistryAnswer) : Type 0 where
  pub legal : IsLegal (before ++ entry_of before number call answer ∷ [])
  pub told : IsAnswer before number call answer
  pub stays : (k : ℕ) → IsLive before k → ((call ≡ Unregister) × (number ≡ k) → ⊥) → IsLive
      (before ++ entry_of before number call answer ∷ []) k
  pub lives : answer ≡ Registered → IsLive (before ++ entry_of before number call answer ∷ []) (length before)

-- a call that ends nothing leaves the seat's number live
lives_on : (v : View) (before after : List Entry) (number : ℕ) (call : RegistryCall) → (call ≡ Unregister → ⊥) → v.number ≡ Some number
    → Fits before v
    → ((k : ℕ) → IsLive before k → ((call ≡ Unregister) × (number ≡ k) → ⊥) → IsLive after k) → v.is_live ≡ true → IsLive after number
lives_on v before after number call other own f stays live = stays number ((f.own number own).live live) (λ ends. other ends.0)

-- the view after an event fits the history after it
pub grows_fits : (v : View) (before : List Entry) (number : ℕ) (call : RegistryCall) (answer : RegistryAnswer) → MayMake v number call
    → Answered before number call answer → IsLegal before → Fits before v
    → Fits (before ++ entry_of before number call answer ∷ []) (grown v before (entry_of before number call answer))
grows_fits v before number (Register pid key) Registered may x legal f =
    let e = entry_of before number (Register pid key) Registered in
    entered_fits v before e (record { number = refl; door = may }) legal (x.lives refl)
grows_fits v before number (Register pid key) (Taken m) may x legal f =
    refused_fits v before (entry_of before number (Register pid key) (Taken m))
grows_fits v before number (Register pid key) _ may x legal f = absurd x.told
grows_fits v before number Start answer may x legal f =
    let e = entry_of before number Start answer in
    called_fits v.is_live v before e f (record { number = may.0; quiet = refl })
    (lives_on v before (before ++ e ∷ []) number Start
    (λ s. let same : ◌≡◌ {A = RegistryCall} Start Unregister = s in cc (same)) may.0 f x.stays)
grows_fits v before number Ask answer may x legal f =
    let e = entry_of before number Ask answer in
    called_fits v.is_live v before e f (record { number = may.0; quiet = refl })
    (lives_on v before (before ++ e ∷ []) number Ask
    (λ s. let same : ◌≡◌ {A = RegistryCall} Ask Unregister = s in cc (same)) may.0 f x.stays)
grows_fits v before number (Cancel pid key) answer may x legal f =
    let e = entry_of before number (Cancel pid key) answer in
    called_fits v.is_live v before e f (record { number = may.0; quiet = refl })
    (lives_on v before (before ++ e ∷ []) number (Cancel pid key)
    (λ s. let same : ◌≡◌ {A = RegistryCall} (Cancel pid key) Unregister = s in cc (same)) may.0 f x.stays)
grows_fits v before number Narrow answer may x legal f =
    let e = entry_of before number Narrow answer in
    called_fits v.is_live v before e f (record { number = may.0; quiet = refl })
    (lives_on v before (before ++ e ∷ []) number Narrow
    (λ s. let same : ◌≡◌ {A = RegistryCall} Narrow Unregister = s in cc (same)) may.0 f x.stays)
grows_fits v before number Unregister answer may x legal f =
    called_fits false v before (entry_of before number Unregister answer) f (record { number = may.0; quiet = refl })
    (λ yes. false_true yes)

-- and what the other seats know stays so
pub grows_keeps : (id : ℕ) (v : View) (before : List Entry) (number : ℕ) (call : RegistryCall) (answer : RegistryAnswer)
    → MayMake v number call
    → IsAnswer before number call answer
    → KeepsOthers id v (grown v before (entry_of before number call answer)) before (before ++ entry_of before number call answer ∷ [])
grows_keeps id v before number (Register pid key) Registered may x =
    entered_keeps id v before (entry_of before number (Register pid key) Registered) record { number = refl; door = may }
grows_keeps id v before number (Register pid key) (Taken m) may x =
    refused_keeps id v before (entry_of before number (Register pid key) (Taken m)) record { number = refl; door = may }
grows_keeps id v before number (Register pid key) _ may x = absurd x
grows_keeps id v before number Start answer may x =
    called_keeps v.is_live id v before (entry_of before number Start answer) record { number = may.0; quiet = refl }
grows_keeps id v before number Ask answer may x =
    called_keeps v.is_live id v before (entry_of before number Ask answer) record { number = may.0; quiet = refl }
grows_keeps id v before number (Cancel pid key) answer may x =
    called_keeps v.is_live id v before (entry_of before number (Cancel pid key) answer) record { number = may.0; quiet = refl }
grows_keeps id v before number Narrow answer may x =
    called_keeps v.is_live id v before (entry_of before number Narrow answer) record { number = may.0; quiet = refl }
grows_keeps id v before number Unregister answer may x =
    called_keeps false id v before (entry_of before number Unregister answer) record { number = may.0; quiet = refl }

pub grows_free : (v : View) (before : List Entry) (number : ℕ) (call : RegistryCall) (answer : RegistryAnswer)
    → IsAnswer before number call answer
    → (grown v before (entry_of before number call answer)).turn ≡ None
grows_free v before number (Register pid key) Registered x = refl
grows_free v before number (Register pid key) (Taken m) x = refl
grows_free v before number (Register pid key) _ x = absurd x
grows_free v before number Start answer x = refl
grows_free v before number Ask answer x = refl
grows_free v before number (Cancel pid key) answer x = refl
grows_free v before number Narrow answer x = refl
grows_free v before number Unregister answer x = refl
