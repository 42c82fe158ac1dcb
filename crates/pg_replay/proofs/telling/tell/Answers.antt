-- Each return is what `write_line` or `report_file` promised, at the outcome of its arm.
use Rattle.std.proofs.Common.{◌≡◌, ◌≢◌, ◌∷◌, ℕ, List, [], Option, Some, None, inl, refl, sym, ap, subst}
use Rattle.std.proofs.lemmas.List.{append-nil}
use Rattle.status_lines.specs.StatusLines.{IsReported}
use Rattle.pg_replay.specs.declared.outcome.Outcome.{Outcome}
use Rattle.pg_replay.specs.declared.outcome.Outcome.TheVariants.{Usage, File, Done, Differs, ReadFault, WriteFault, TurnLimit, NoMemory, TooLong, BadRecording}
use Rattle.pg_replay.specs.Statuses.{status_of, line_of}
use Rattle.pg_replay.proofs.telling.tell.Goals as goal

-- what is reported at an outcome that is known
told_at : (known outcome : Outcome) (ended : ℕ) (old new : Option (List ℕ)) (faults new_faults refused new_refused : ℕ) → outcome ≡ known
    → IsReported (status_of known) (line_of known) ended old new faults new_faults refused new_refused
    → IsReported (status_of outcome) (line_of outcome) ended old new faults new_faults refused new_refused
told_at known outcome ended old new faults new_faults refused new_refused is told =
    subst (λ o. IsReported (status_of o) (line_of o) ended old new faults new_faults refused new_refused) (sym is) told

-- no line, and nothing was written
nothing_told : (status : ℕ) (old : Option (List ℕ)) (faults refused : ℕ) → IsReported status [] status old old faults faults refused refused
nothing_told status None faults refused = inl (inl (refl, tt))
nothing_told status (Some before) faults refused = inl (inl (refl, ap Some (sym (append-nil before))))

-- a line that begins with a byte
no_empty_line : (byte : ℕ) (rest : List ℕ) → byte ∷ rest ≢ []
no_empty_line byte rest = λ e. cc

pub returns-in-Usage : goal.returns-in-Usage
returns-in-Usage g c =
    let told = c.write_line in record {
      reported = told_at Usage c.args.outcome.now told.result (g.E.Sink.written c.args.err.now)
          (g.E.Sink.written told.new.err) (g.E.Sink.faults c.args.err.now) (g.E.Sink.faults told.new.err)
          (g.E.Sink.refused c.args.err.now) (g.E.Sink.refused told.new.err) c.in-Usage.is
          told.ensures.reported;
      never_falls = told.ensures.never_falls;
    }

pub returns-in-File : goal.returns-in-File
returns-in-File g c =
    let told = c.report_file in record {
      reported = told_at (File c.in-File.error) c.args.outcome.now told.result (g.E.Sink.written c.args.err.now)
          (g.E.Sink.written told.new.err) (g.E.Sink.faults c.args.err.now) (g.E.Sink.faults told.new.err)
          (g.E.Sink.refused c.args.err.now) (g.E.Sink.refused told.new.err) c.in-File.is
          told.ensures.reported;
      never_falls = told.ensures.never_falls;
    }

pub returns-in-Done-clause-reported : goal.returns-in-Done-clause-reported
returns-in-Done-clause-reported g c =
    told_at Done c.args.outcome.now 0 (g.E.Sink.written c.args.err.now) (g.E.Sink.written c.args.err.now)
    (g.E.Sink.faults c.args.err.now) (g.E.Sink.faults c.args.err.now)
    (g.E.Sink.refused c.args.err.now) (g.E.Sink.refused c.args.err.now) c.in-Done.is
    (nothing_told 0 (g.E.Sink.written c.args.err.now) (g.E.Sink.faults c.args.err.now) (g.E.Sink.refused c.args.err.now))

pub returns-in-Differs-clause-reported : goal.returns-in-Differs-clause-reported
returns-in-Differs-clause-reported g c =
    told_at Differs c.args.outcome.now 20 (g.E.Sink.written c.args.err.now) (g.E.Sink.written c.args.err.now)
    (g.E.Sink.faults c.args.err.now) (g.E.Sink.faults c.args.err.now)
    (g.E.Sink.refused c.args.err.now) (g.E.Sink.refused c.args.err.now) c.in-Differs.is
    (nothing_told 20 (g.E.Sink.written c.args.err.now) (g.E.Sink.faults c.args.err.now) (g.E.Sink.refused c.args.err.now))

pub returns-in-ReadFault : goal.returns-in-ReadFault
returns-in-ReadFault g c =
    let told = c.write_line-in-ReadFault in record {
      reported = told_at ReadFault c.args.outcome.now told.result (g.E.Sink.written c.args.err.now)
          (g.E.Sink.written told.new.err) (g.E.Sink.faults c.args.err.now) (g.E.Sink.faults told.new.err)
          (g.E.Sink.refused c.args.err.now) (g.E.Sink.refused told.new.err) c.in-ReadFault.is
          told.ensures.reported;
      never_falls = told.ensures.never_falls;
    }

pub returns-in-WriteFault : goal.returns-in-WriteFault
returns-in-WriteFault g c =
    let told = c.write_line-in-WriteFault in record {
      reported = told_at WriteFault c.args.outcome.now told.result (g.E.Sink.written c.args.err.now)
          (g.E.Sink.written told.new.err) (g.E.Sink.faults c.args.err.now) (g.E.Sink.faults told.new.err)
          (g.E.Sink.refused c.args.err.now) (g.E.Sink.refused told.new.err) c.in-WriteFault.is
          told.ensures.reported;
      never_falls = told.ensures.never_falls;
    }

pub returns-in-TurnLimit : goal.returns-in-TurnLimit
returns-in-TurnLimit g c =
    let told = c.write_line-in-TurnLimit in record {
      reported = told_at TurnLimit c.args.outcome.now told.result (g.E.Sink.written c.args.err.now)
          (g.E.Sink.written told.new.err) (g.E.Sink.faults c.args.err.now) (g.E.Sink.faults told.new.err)
          (g.E.Sink.refused c.args.err.now) (g.E.Sink.refused told.new.err) c.in-TurnLimit.is
          told.ensures.reported;
      never_falls = told.ensures.never_falls;
    }

pub returns-in-NoMemory : goal.returns-in-NoMemory
returns-in-NoMemory g c =
    let told = c.write_line-in-NoMemory in record {
      reported = told_at NoMemory c.args.outcome.now told.result (g.E.Sink.written c.args.err.now)
          (g.E.Sink.written told.new.err) (g.E.Sink.faults c.args.err.now) (g.E.Sink.faults told.new.err)
          (g.E.Sink.refused c.args.err.now) (g.E.Sink.refused told.new.err) c.in-NoMemory.is
          told.ensures.reported;
      never_falls = told.ensures.never_falls;
    }

pub returns-in-TooLong : goal.returns-in-TooLong
returns-in-TooLong g c =
    let told = c.write_line-in-TooLong in record {
      reported = told_at TooLong c.args.outcome.now told.result (g.E.Sink.written c.args.err.now)
          (g.E.Sink.written told.new.err) (g.E.Sink.faults c.args.err.now) (g.E.Sink.faults told.new.err)
          (g.E.Sink.refused c.args.err.now) (g.E.Sink.refused told.new.err) c.in-TooLong.is
          told.ensures.reported;
      never_falls = told.ensures.never_falls;
    }

pub returns-in-BadRecording : goal.returns-in-BadRecording
returns-in-BadRecording g c =
    let told = c.write_line-in-BadRecording in record {
      reported = told_at BadRecording c.args.outcome.now told.result (g.E.Sink.written c.args.err.now)
          (g.E.Sink.written told.new.err) (g.E.Sink.faults c.args.err.now) (g.E.Sink.faults told.new.err)
          (g.E.Sink.refused c.args.err.now) (g.E.Sink.refused told.new.err) c.in-BadRecording.is
          told.ensures.reported;
      never_falls = told.ensures.never_falls;
    }

pub write_line-requires : goal.write_line-requires
write_line-requires g c = no_empty_line _ _

pub write_line-requires-in-ReadFault : goal.write_line-requires-in-ReadFault
write_line-requires-in-ReadFault g c = no_empty_line _ _

pub write_line-requires-in-WriteFault : goal.write_line-requires-in-WriteFault
write_line-requires-in-WriteFault g c = no_empty_line _ _

pub write_line-requires-in-TurnLimit : goal.write_line-requires-in-TurnLimit
write_line-requires-in-TurnLimit g c = no_empty_line _ _

pub write_line-requires-in-NoMemory : goal.write_line-requires-in-NoMemory
write_line-requires-in-NoMemory g c = no_empty_line _ _

pub write_line-requires-in-TooLong : goal.write_line-requires-in-TooLong
write_line-requires-in-TooLong g c = no_empty_line _ _

pub write_line-requires-in-BadRecording : goal.write_line-requires-in-BadRecording
write_line-requires-in-BadRecording g c = no_empty_line _ _
