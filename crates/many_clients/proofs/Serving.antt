-- Each connection becomes its job.
use Rattle.std.proofs.Common.{◌≡◌, ℕ, suc, List, [], ◌∷◌, ◌++◌, ◌+◌, map, length, Option, Some, None, sym, refl, ap, subst, ◌∙◌, arith}
use Rattle.std.specs.Prelude.{IfSome, OnOk, Result, Ok, Err}
use Rattle.std.proofs.lemmas.List.{append-nil, append_assoc, map-append, length-append}
use Rattle.pg_cancel.specs.Connections.{Connection, Issuer}
use Rattle.pg_streams.specs.Accepting.{Gains, LosesFirst}
use Rattle.many_clients.specs.Jobs.{AreJobsFrom, HasServedEach, IsJobOf, ServesEach, ServesNext}

-- what a server owes while more connections may come: these are left
abbrev pub ServesSoFar : {C J : Type 0} → (Connection → C → J → Type 0) → Issuer → Option (List C) → Option (List C) → Option (List J)
    → Option (List J) → ℕ → Type 0
ServesSoFar makes issuer coming coming' taken taken' n = IfSome coming (λ connections. IfSome taken (λ before.
    (served : HasServedEach makes issuer connections before taken' n) × (coming' ≡ Some served.rest)))

-- what follows where it went well
pub ok_then : {T E P Q : Type 0} (r : Result T E) → (P → Q) → OnOk r P → OnOk r Q
ok_then (Ok v) follows p = follows p
ok_then (Err e) follows p = tt

-- one more job behind these
one_more : {C J : Type 0} (makes : Connection → C → J → Type 0) (issuer : Issuer) (pid next : ℕ) (pairs : List (C × J)) (p : C × J)
    → next ≡ pid + length pairs → AreJobsFrom makes issuer pid pairs → IsJobOf makes issuer next p
    → AreJobsFrom makes issuer pid (pairs ++ p ∷ [])
one_more makes issuer pid next [] p is all one = (subst (λ n. IsJobOf makes issuer n p) (omega (arith, is)) one, tt)
one_more makes issuer pid next (q ∷ pairs) p is all one =
    (all.0, one_more makes issuer (suc pid) next pairs p (omega (arith, is)) all.1 one)

pub none_yet : {C J : Type 0} (makes : Connection → C → J → Type 0) (issuer : Issuer) (coming : Option (List C)) (taken : Option (List J))
    → ServesSoFar makes issuer coming coming taken taken 0
none_yet makes issuer None taken = tt
none_yet makes issuer (Some all) None = tt
none_yet makes issuer (Some all) (Some before) =
    (record { pairs = []; rest = all; number = refl; connections = refl; jobs = ap Some (sym (append-nil before)); made = tt }, refl)

-- one more connection was taken in, and became its job
pub goes_on : {C J : Type 0} (makes : Connection → C → J → Type 0) (issuer : Issuer) (coming mid coming' : Option (List C))
    (taken between taken' : Option (List J)) (n pid : ℕ) → pid ≡ n + 1 → ServesSoFar makes issuer coming mid taken between n
    → ServesNext makes issuer mid coming' between taken' pid → ServesSoFar makes issuer coming coming' taken taken' pid
goes_on makes issuer None mid coming' taken between taken' n pid next so one = tt
goes_on makes issuer (Some all) mid coming' None between taken' n pid next so one = tt
goes_on {C} {J} makes issuer (Some all) mid coming' (Some before) between taken' n pid next so one =
    let s = so.0 in
    let p : C × J = (one.connection, one.job) in
    let here = subst (λ m. LosesFirst m coming' one.connection) so.1 one.came in
    let grown = subst (λ t. Gains t taken' (one.job ∷ [])) s.jobs one.went in (
      record {
        pairs = s.pairs ++ p ∷ [];
        rest = here.0;
        number = omega (arith, length-append s.pairs (p ∷ []), s.number, next);
        connections = s.connections ∙ ap (λ r. map (λ (p : C × J). p.0) s.pairs ++ r) here.1
            ∙ sym (append_assoc (map (λ (p : C × J). p.0) s.pairs) (one.connection ∷ []) here.0)
            ∙ ap (λ m. m ++ here.0) (sym (map-append (λ (p : C × J). p.0) s.pairs (p ∷ [])));
        jobs = grown ∙ ap Some (append_assoc before (map (λ (p : C × J). p.1) s.pairs) (one.job ∷ [])
            ∙ ap (λ m. before ++ m) (sym (map-append (λ (p : C × J). p.1) s.pairs (p ∷ []))));
        made = one_more makes issuer 1 pid s.pairs p (omega (arith, s.number, next)) s.made one.is;
      },
      here.2,
    )

-- no more comes
pub served : {C J : Type 0} (makes : Connection → C → J → Type 0) (issuer : Issuer) (coming coming' : Option (List C))
    (taken between taken' : Option (List J)) (n : ℕ) → ServesSoFar makes issuer coming coming' taken between n → taken' ≡ between
    → ServesEach makes issuer coming taken taken' n
served makes issuer None coming' taken between taken' n so same = tt
served makes issuer (Some all) coming' None between taken' n so same = tt
served makes issuer (Some all) coming' (Some before) between taken' n so same =
    record {
      pairs = so.0.pairs;
      rest = so.0.rest;
      number = so.0.number;
      connections = so.0.connections;
      jobs = same ∙ so.0.jobs;
      made = so.0.made;
    }
