-- The kinds of errors that the server of relations tells: of each its severity and code, by which it is known, and its cause.
use Rattle.std.proofs.Common.{◌≡◌, ◌≢◌, ◌∙◌, ◌==◌, ◌&&◌, not, ℕ, Bool, true, false, List, refl, sym, if◌then◌else◌, codes, bytes_eq, get_or}
use Rattle.std.proofs.Math.Path.{ap₂}
use Rattle.std.proofs.lemmas.Bool.Decides.{Decides-eqb}
use Rattle.std.proofs.lemmas.Slice.Eq.{bytes_eq-Decides}
use Rattle.pg_messages.specs.declared.response.ErrorInfo.{ErrorInfo}
use Rattle.relation_laws.specs.Causes.{Cause, AsksOtherVersion, NamesNoStatement, NamesNoPortal, BreaksProtocol, NamesNoRelation, IsCanceled, MeetsTextWithoutStyle, GivesCopyUp, SendsCopy}

pub data Kind : Type 0 where
  Version : Kind
  Statement : Kind
  Portal : Kind
  Protocol : Kind
  Relation : Kind
  Cancel : Kind
  Style : Kind
  CopyFail : Kind
  CopyData : Kind

abbrev pub is_fatal_kind : Kind → Bool
is_fatal_kind Version = true
is_fatal_kind CopyData = true
is_fatal_kind _ = false

abbrev pub severity_of : Kind → List ℕ
severity_of Version = codes "FATAL"
severity_of Statement = codes "ERROR"
severity_of Portal = codes "ERROR"
severity_of Protocol = codes "ERROR"
severity_of Relation = codes "ERROR"
severity_of Cancel = codes "ERROR"
severity_of Style = codes "ERROR"
severity_of CopyFail = codes "ERROR"
severity_of CopyData = codes "FATAL"

abbrev pub code_of : Kind → List ℕ
code_of Version = codes "0A000"
code_of Statement = codes "26000"
code_of Portal = codes "34000"
code_of Protocol = codes "08P01"
code_of Relation = codes "42P01"
code_of Cancel = codes "57014"
code_of Style = codes "22023"
code_of CopyFail = codes "XX000"
code_of CopyData = codes "08P01"

abbrev pub CauseOf : Kind → Cause
CauseOf Version = AsksOtherVersion
CauseOf Statement = NamesNoStatement
CauseOf Portal = NamesNoPortal
CauseOf Protocol = BreaksProtocol
CauseOf Relation = NamesNoRelation
CauseOf Cancel = IsCanceled
CauseOf Style = MeetsTextWithoutStyle
CauseOf CopyFail = GivesCopyUp
CauseOf CopyData = SendsCopy

-- an error of this kind, which isn't that of a query that comes too early
pub record IsOf (k : Kind) (info : ErrorInfo) : Type 0 where
  pub severity : info.severity ≡ severity_of k
  pub code : info.code ≡ code_of k
  pub letter : get_or info.message 0 0 ≢ 110

-- the test of a kind
abbrev is_of : Kind → ErrorInfo → Bool
is_of k info = bytes_eq info.severity (severity_of k) && (bytes_eq info.code (code_of k) && not (get_or info.message 0 0 == 110))

both_true : (a b : Bool) → (a && b) ≡ true → (a ≡ true) × (b ≡ true)
both_true true b e = (refl, e)
both_true false b e = cc

other_letter : (n : ℕ) → not (n == 110) ≡ true → n ≢ 110
other_letter n e same = let is : (n == 110) ≡ true = (Decides-eqb n 110).1 same in let f : ⊥ = cc in f

pub known : (k : Kind) (info : ErrorInfo) → is_of k info ≡ true → IsOf k info
known k info e =
    let first = both_true (bytes_eq info.severity (severity_of k)) (bytes_eq info.code (code_of k)
    && not (get_or info.message 0 0 == 110)) e in
    let second = both_true (bytes_eq info.code (code_of k)) (not (get_or info.message 0 0 == 110)) first.1 in
    record {
      severity = (bytes_eq-Decides info.severity (severity_of k)).0 first.0;
      code = (bytes_eq-Decides info.code (code_of k)).0 second.0;
      letter = other_letter (get_or info.message 0 0) second.1;
    }

abbrev kind_at : List ℕ → List ℕ → Kind
kind_at severity code =
    if bytes_eq code (codes "0A000") then Version
    else if bytes_eq code (codes "26000") then Statement
    else if bytes_eq code (codes "34000") then Portal
    else if bytes_eq code (codes "42P01") then Relation
    else if bytes_eq code (codes "57014") then Cancel
    else if bytes_eq code (codes "22023") then Style
    else if bytes_eq code (codes "XX000") then CopyFail
    else if bytes_eq severity (codes "FATAL") then CopyData else Protocol

kind_is : (k : Kind) → kind_at (severity_of k) (code_of k) ≡ k
kind_is Version = refl
kind_is Statement = refl
kind_is Portal = refl
kind_is Protocol = refl
kind_is Relation = refl
kind_is Cancel = refl
kind_is Style = refl
kind_is CopyFail = refl
kind_is CopyData = refl

-- severity and code tell the kind
pub same_kind : (k j : Kind) → severity_of k ≡ severity_of j → code_of k ≡ code_of j → k ≡ j
same_kind k j e f = sym (kind_is k) ∙ ap₂ kind_at e f ∙ kind_is j
