-- Bytes that went through an outbox, and then more.
use Rattle.std.proofs.Common.{◌≡◌, ℕ, List, [], ◌++◌, Option, Some, None, refl, sym, ap, subst, ◌∙◌, append_assoc, append-nil, take, drop}
use Rattle.std.proofs.lemmas.List.{take-append-drop}
use Rattle.pg_client.specs.Answer.{BeginsWith}
use Rattle.conversation_runs.specs.Streams.{GrowsBy, GrowsByFront}
use Rattle.conversation_runs.specs.Steps.{Flows}

pub GrowsBy-none : (w : Option (List ℕ)) → GrowsBy w w []
GrowsBy-none None = tt
GrowsBy-none (Some x) = ap Some (sym (append-nil x))

pub GrowsBy-then : (w v u : Option (List ℕ)) (a b : List ℕ) → GrowsBy w v a → GrowsBy v u b → GrowsBy w u (a ++ b)
GrowsBy-then None v u a b p q = tt
GrowsBy-then (Some x) v u a b p q =
    let q' : GrowsBy (Some (x ++ a)) u b = subst (λ z. GrowsBy z u b) p q in q' ∙ ap Some (append_assoc x a b)

pub GrowsByFront-then : (w v u : Option (List ℕ)) (a b : List ℕ) → GrowsBy w v a → GrowsByFront v u b → GrowsByFront w u (a ++ b)
GrowsByFront-then None v u a b p q = tt
GrowsByFront-then (Some x) v u a b p q =
    let q' : GrowsByFront (Some (x ++ a)) u b = subst (λ z. GrowsByFront z u b) p q in
    (a ++ q'.0, (q'.1.0, ap (λ l. a ++ l) q'.1.1 ∙ sym (append_assoc a q'.0 q'.1.0)), q'.2 ∙ ap Some (append_assoc x a q'.0))

pub Flows-none : (w : Option (List ℕ)) (o : List ℕ) → Flows w w o o []
Flows-none w o = record { sent = []; grown = GrowsBy-none w; same = sym (append-nil o) }

pub Flows-then : {w v u : Option (List ℕ)} {o p q a b : List ℕ} → Flows w v o p a → Flows v u p q b → Flows w u o q (a ++ b)
Flows-then {w} {v} {u} {o} {p} {q} {a} {b} x y = record {
  sent = x.sent ++ y.sent;
  grown = GrowsBy-then w v u x.sent y.sent x.grown y.grown;
  same = append_assoc x.sent y.sent q ∙ ap (λ l. x.sent ++ l) y.same ∙ sym (append_assoc x.sent p b) ∙ ap (λ l. l ++ b) x.same
      ∙ append_assoc o a b;
}

-- bytes that wait
pub Flows-wait : (w : Option (List ℕ)) (o p a : List ℕ) → p ≡ o ++ a → Flows w w o p a
Flows-wait w o p a e = record { sent = []; grown = GrowsBy-none w; same = e }

-- all that waited is sent
pub Flows-sent : (w v : Option (List ℕ)) (o q : List ℕ) → GrowsBy w v o → q ≡ [] → Flows w v o q []
Flows-sent w v o q g e = record { sent = o; grown = g; same = ap (λ l. o ++ l) e }

-- a front of a front
pub front_of_more : (a b f : List ℕ) → BeginsWith a f → BeginsWith (a ++ b) f
front_of_more a b f h = (h.0 ++ b, ap (λ l. l ++ b) h.1 ∙ append_assoc f h.0 b)

-- bytes flowed, and the sending of those that waited was cut off
pub cut_after : {w v : Option (List ℕ)} {o p a : List ℕ} (u : Option (List ℕ)) → Flows w v o p a → GrowsByFront v u p
    → GrowsByFront w u (o ++ a)
cut_after {w} {v} {o} {p} {a} u x g = subst (λ l. GrowsByFront w u l) x.same (GrowsByFront-then w v u x.sent p x.grown g)

-- nothing was sent
pub cut_at_once : (w : Option (List ℕ)) (bytes : List ℕ) → GrowsByFront w w bytes
cut_at_once None bytes = tt
cut_at_once (Some x) bytes = ([], (bytes, refl), ap Some (sym (append-nil x)))

-- a chunk of what waited is sent
pub Flows-chunk : (w v : Option (List ℕ)) (o q : List ℕ) (n : ℕ) → GrowsBy w v (take n o) → q ≡ drop n o → Flows w v o q []
Flows-chunk w v o q n g e = record {
  sent = take n o;
  grown = g;
  same = ap (λ l. take n o ++ l) e ∙ take-append-drop n o ∙ sym (append-nil o);
}

-- nothing waits any more
pub all_sent : {w v : Option (List ℕ)} {o p : List ℕ} → Flows w v o p [] → p ≡ [] → GrowsBy w v o
all_sent {w} {v} {o} {p} x e = subst (λ l. GrowsBy w v l)
    (sym (append-nil x.sent) ∙ ap (λ l. x.sent ++ l) (sym e) ∙ x.same ∙ append-nil o) x.grown

-- the sending of a chunk was cut off
pub cut_in_chunk : {w v : Option (List ℕ)} {o p : List ℕ} (u : Option (List ℕ)) (n : ℕ) → Flows w v o p [] → GrowsByFront v u (take n p)
    → GrowsByFront w u o
cut_in_chunk {w} {v} {o} {p} u n x g = subst (λ l. GrowsByFront w u l) (append-nil o)
    (cut_after u x (subst (λ l. GrowsByFront v u l) (take-append-drop n p) (front_grows v u (take n p) (drop n p) g)))
  where
    front_grows : (v u : Option (List ℕ)) (a b : List ℕ) → GrowsByFront v u a → GrowsByFront v u (a ++ b)
    front_grows None u a b g = tt
    front_grows (Some x) u a b g = (g.0, front_of_more a b g.0 g.1, g.2)
