-- What a call leaves of the handle that makes it, and what a registration leaves of the door.
use Rattle.std.proofs.Common.{◌≡◌, ℕ, ℤ, false, List, [], take, Result, Ok, Err, sym, refl, ap, ◌∙◌, subst}
use Rattle.atomic_table.specs.Table.{Me}
use Rattle.pg_cancel.specs.declared.entries.Entry.{Entry}
use Rattle.pg_cancel.specs.declared.entries.RegistryCall.{RegistryCall}
use Rattle.pg_cancel.specs.declared.entries.RegistryCall.TheVariants.{Register, Cancel, Narrow}
use Rattle.pg_cancel.specs.declared.entries.RegistryAnswer.{RegistryAnswer}
use Rattle.pg_cancel.specs.declared.entries.RegistryAnswer.TheVariants.{Taken}
use Rattle.pg_cancel.specs.declared.roster.Roster.{Roster}
use Rattle.pg_cancel.specs.declared.seat.View.{View}
use Rattle.pg_cancel.specs.declared.manager.RegisterError.{RegisterError}
use Rattle.pg_cancel.specs.declared.manager.RegisterError.TheVariants.{PidTaken, NoMemory}
use Rattle.pg_cancel.specs.LegalHistory.{is_narrow}
use Rattle.pg_cancel.specs.Connections.{Issuer, Connection, Witness, Made, Registers, Begins, IsNamed, calls_of, entry}
use Rattle.pg_cancel.specs.RosterTable.{IsHandle, IsDoor, IsOpening, without_number, handle}
use Rattle.pg_cancel.proofs.Events.{made_as, registers_as, named_more, named_short, named_first}

abbrev pub Sat : Type 0
Sat = Me Roster View

-- the connection of a handle with this seat
abbrev pub seen_by : Issuer → Sat → ℕ → ℤ → List ℕ → Connection
seen_by issuer m n pid key = record { issuer = issuer; number = n; pid = pid; key = key; seen = m.0.seen; mine = m.0.mine }

-- ---- before a call

pub begins_named : (mine : List Entry) (n : ℕ) (p q : ℤ) (key : List ℕ) → p ≡ q → IsNamed mine n q key
    → (registered : List ℕ) × Begins mine n p registered
begins_named mine n p q key pid x = (x.0, subst (λ z. Begins mine n z x.0) (sym pid) x.1)

pub canceling : (p q : ℤ) (k l : List ℕ) → p ≡ q → k ≡ l → Cancel p k ≡ Cancel q l
canceling p q k l pid key = λ i. Cancel (pid i) (key i)

-- ---- after a call

-- nothing was done
pub kept : (m m' : Sat) (n : ℕ) (pid : ℤ) (key : List ℕ) → m' ≡ m → IsHandle m n × IsNamed m.0.mine n pid key
    → IsHandle m' n × IsNamed m'.0.mine n pid key
kept m m' n pid key is x = subst (λ (z : Sat). IsHandle z n × IsNamed z.0.mine n pid key) (sym is) x

pub still_seen : (issuer issuer' : Issuer) (m m' : Sat) (n : ℕ) (pid : ℤ) (key : List ℕ) (v : Connection)
    → issuer' ≡ issuer → m' ≡ m → seen_by issuer m n pid key ≡ v → seen_by issuer' m' n pid key ≡ v
still_seen issuer issuer' m m' n pid key v same is view = (λ i. seen_by (same i) (is i) n pid key) ∙ view

-- the calls are one more, which is no Narrow, or is one
pub made_more : (m m' : Sat) (n : ℕ) (pid : ℤ) (key : List ℕ) (c : RegistryCall) (a : RegistryAnswer) → is_narrow c ≡ false
    → IsHandle m' n → Made n c m.0.seen m.0.mine m'.0.seen m'.0.mine a → IsNamed m.0.mine n pid key
    → IsHandle m' n × IsNamed m'.0.mine n pid key
made_more m m' n pid key c a other left made named =
    (left, named_more m.0.mine m'.0.mine (entry n c a) n pid key other made.mine_is named)

pub made_short : (m m' : Sat) (n : ℕ) (pid : ℤ) (key short : List ℕ) (a : RegistryAnswer) → short ≡ take 4 key
    → IsHandle m' n → Made n Narrow m.0.seen m.0.mine m'.0.seen m'.0.mine a → IsNamed m.0.mine n pid key
    → IsHandle m' n × IsNamed m'.0.mine n pid short
made_short m m' n pid key short a first left made named =
    (left, named_short m.0.mine m'.0.mine n pid key short a made.mine_is first named)

-- what callers see of it
pub viewed : (h v : Connection) (issuer : Issuer) → h ≡ v → issuer ≡ h.issuer
    → (issuer ≡ v.issuer) × (h.number ≡ v.number) × (h.pid ≡ v.pid) × (h.key ≡ v.key)
viewed h v issuer view is = (
  is ∙ ap (λ (x : Connection). x.issuer) view,
  ap (λ (x : Connection). x.number) view,
  ap (λ (x : Connection). x.pid) view,
  ap (λ (x : Connection). x.key) view,
)

pub viewed_short : (h v : Connection) (issuer : Issuer) (short : List ℕ) → h ≡ v → issuer ≡ h.issuer → short ≡ take 4 h.key
    → (issuer ≡ v.issuer) × (h.number ≡ v.number) × (h.pid ≡ v.pid) × (short ≡ take 4 v.key)
viewed_short h v issuer short view is first = (
  is ∙ ap (λ (x : Connection). x.issuer) view,
  ap (λ (x : Connection). x.number) view,
  ap (λ (x : Connection). x.pid) view,
  first ∙ ap (λ (x : Connection). take 4 x.key) view,
)

pub made_for : (h v : Connection) (c d : RegistryCall) (seen mine : List Entry) (a b : RegistryAnswer) → h ≡ v → c ≡ d → a ≡ b
    → Made h.number c h.seen h.mine seen mine a → Made v.number d v.seen v.mine seen mine b
made_for h v c d seen mine a b view call same made =
    subst (λ (x : Connection). Made x.number d x.seen x.mine seen mine b) view
    (subst (λ y. Made h.number y h.seen h.mine seen mine b) call (made_as h.number c h.seen h.mine seen mine a b same made))

-- ---- after a Register

pub passed_door : (m m' : Sat) (n : ℕ) (c : RegistryCall) → m' ≡ (without_number m.0, m.1) → IsOpening m n c → IsDoor m'
passed_door m m' n c is o = subst IsDoor (sym is) ((o.0.0, refl), refl, o.2)

pub passed_handle : (m m' : Sat) (n : ℕ) (pid : ℤ) (key own : List ℕ) → m' ≡ (handle m.0, []) → own ≡ key
    → IsOpening m n (Register pid key) → IsHandle m' n × IsNamed m'.0.mine n pid own
passed_handle m m' n pid key own is copied o =
    subst (λ k. IsHandle m' n × IsNamed m'.0.mine n pid k) (sym copied)
    (subst (λ (z : Sat). IsHandle z n × IsNamed z.0.mine n pid key) (sym is)
    (((refl, refl), o.1, o.3, refl, o.5), named_first m.0.mine n pid key o.4))

pub registers_for : (n : ℕ) (p q : ℤ) (key : List ℕ) (d v : Witness) (x y : List Entry) (a : RegistryAnswer)
    → d ≡ v → p ≡ q → x ≡ y → Registers n (Register p key) d.seen x a → Registers n (Register q key) v.seen y a
registers_for n p q key d v x y a view pid goes made =
    subst (λ (w : Witness). Registers n (Register q key) w.seen y a) view (registers_as n p q key d.seen x y a pid goes made)

pub passed_own : (m m' : Sat) (n : ℕ) (c : RegistryCall) → m' ≡ (handle m.0, []) → IsOpening m n c
    → calls_of n m'.0.seen ≡ m'.0.mine
passed_own m m' n c is o = subst (λ (z : Sat). calls_of n z.0.seen ≡ z.0.mine) (sym is) o.5.1

-- the door and the handle have seen as much
pub passed_seen : (m d m' : Sat) → d ≡ (without_number m.0, m.1) → m' ≡ (handle m.0, []) → m'.0.seen ≡ d.0.seen
passed_seen m d m' door is = ap (λ (z : Sat). z.0.seen) is ∙ sym (ap (λ (z : Sat). z.0.seen) door)

-- which results are not which errors
pub ok_is_no_err : {A : Type 0} (h : A) (e : RegisterError) → ◌≡◌ {A = Result A RegisterError} (Ok h) (Err e) → ⊥
ok_is_no_err {A} h e same = cc (same)

pub no_pid : {A : Type 0} (k : ℕ) → ◌≡◌ {A = Result A RegisterError} (Err NoMemory) (Err (PidTaken k)) → ⊥
no_pid {A} k same = cc (same)

pub refused_taken : {A : Type 0} (e : RegisterError) (r : Result ℕ RegisterError) (p q : ℤ) (key : List ℕ) (d v : Witness)
    (seen : List Entry)
    → r ≡ Err e → d ≡ v → p ≡ q
    → ((k : ℕ) → r ≡ Err (PidTaken k) → (n : ℕ) × Registers n (Register p key) d.seen seen (Taken k))
    → (m : ℕ) → ◌≡◌ {A = Result A RegisterError} (Err e) (Err (PidTaken m))
    → (n : ℕ) × Registers n (Register q key) v.seen seen (Taken m)
refused_taken {A} e r p q key d v seen is view pid told m same =
    let who : e ≡ PidTaken m = cc (same) in
    let at : r ≡ Err (PidTaken m) = cc (is, who) in
    let t = told m at in (t.0, registers_for t.0 p q key d v seen seen (Taken m) view pid refl t.1)

-- the door with this seat
abbrev pub witness : Issuer → Sat → Witness
witness issuer m = record { issuer = issuer; seen = m.0.seen }

pub refused_none : {A : Type 0} (e : RegisterError) (r : Result ℕ RegisterError) (issuer issuer' : Issuer) (m m' : Sat)
    (v : Witness)
    → r ≡ Err e → (r ≡ Err NoMemory → m' ≡ m) → issuer' ≡ issuer → witness issuer m ≡ v
    → ◌≡◌ {A = Result A RegisterError} (Err e) (Err NoMemory) → witness issuer' m' ≡ v
refused_none {A} e r issuer issuer' m m' v is none goes view same =
    let which : e ≡ NoMemory = cc (same) in
    let at : r ≡ Err NoMemory = cc (is, which) in
    let back = none at in (λ i. witness (goes i) (back i)) ∙ view
