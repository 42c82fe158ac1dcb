-- Each return is what `write_line`, `report_file` or `report_conversation` promised, at the outcome of its arm.
use Rattle.std.proofs.Common.{◌≡◌, ◌≢◌, ◌∷◌, ℕ, List, [], Option, Some, None, inl, refl, sym, ap, subst, arith}
use Rattle.std.proofs.lemmas.List.{append-nil}
use Rattle.status_lines.specs.StatusLines.{IsReported}
use Rattle.relation_server.specs.declared.outcome.Outcome.{Outcome}
use Rattle.relation_server.specs.declared.outcome.Outcome.TheVariants.{Done, Usage, File, PidTaken, Conversation, AcceptFault, SpawnFault}
use Rattle.relation_server.specs.Outcomes.{status_of, line_of}
use Rattle.relation_server.proofs.report.report.Goals as goal

-- what is reported at an outcome that is known
told_at : (known outcome : Outcome) (ended : ℕ) (old new : Option (List ℕ)) (faults new_faults refused new_refused : ℕ) → outcome ≡ known
    → IsReported (status_of known) (line_of known) ended old new faults new_faults refused new_refused
    → IsReported (status_of outcome) (line_of outcome) ended old new faults new_faults refused new_refused
told_at known outcome ended old new faults new_faults refused new_refused is told =
    subst (λ o. IsReported (status_of o) (line_of o) ended old new faults new_faults refused new_refused) (sym is) told

-- no line, and nothing was written
nothing_told : (status : ℕ) (old : Option (List ℕ)) (faults refused : ℕ) → IsReported status [] status old old faults faults refused refused
nothing_told status None faults refused = inl (inl (refl, tt))
nothing_told status (Some before) faults refused = inl (inl (refl, ap Some (sym (append-nil before))))

-- a line that begins with a byte
no_empty_line : (byte : ℕ) (rest : List ℕ) → byte ∷ rest ≢ []
no_empty_line byte rest = λ e. cc

pub returns-in-Done : goal.returns-in-Done
returns-in-Done g c = record {
  reported = told_at Done c.args.outcome.now 0 (g.E.Sink.written c.args.err.now) (g.E.Sink.written c.args.err.now)
      (g.E.Sink.faults c.args.err.now) (g.E.Sink.faults c.args.err.now)
      (g.E.Sink.refused c.args.err.now) (g.E.Sink.refused c.args.err.now) c.in-Done.is
      (nothing_told 0 (g.E.Sink.written c.args.err.now) (g.E.Sink.faults c.args.err.now) (g.E.Sink.refused c.args.err.now));
  never_falls = omega arith;
}

pub returns-in-Usage : goal.returns-in-Usage
returns-in-Usage g c =
    let told = c.write_line in record {
      reported = told_at Usage c.args.outcome.now told.result (g.E.Sink.written c.args.err.now)
          (g.E.Sink.written told.new.err) (g.E.Sink.faults c.args.err.now) (g.E.Sink.faults told.new.err)
          (g.E.Sink.refused c.args.err.now) (g.E.Sink.refused told.new.err) c.in-Usage.is
          told.ensures.reported;
      never_falls = told.ensures.never_falls;
    }

pub returns-in-File : goal.returns-in-File
returns-in-File g c =
    let told = c.report_file in record {
      reported = told_at (File c.in-File.error) c.args.outcome.now told.result (g.E.Sink.written c.args.err.now)
          (g.E.Sink.written told.new.err) (g.E.Sink.faults c.args.err.now) (g.E.Sink.faults told.new.err)
          (g.E.Sink.refused c.args.err.now) (g.E.Sink.refused told.new.err) c.in-File.is
          told.ensures.reported;
      never_falls = told.ensures.never_falls;
    }

pub returns-in-PidTaken : goal.returns-in-PidTaken
returns-in-PidTaken g c =
    let told = c.write_line-in-PidTaken in record {
      reported = told_at PidTaken c.args.outcome.now told.result (g.E.Sink.written c.args.err.now)
          (g.E.Sink.written told.new.err) (g.E.Sink.faults c.args.err.now) (g.E.Sink.faults told.new.err)
          (g.E.Sink.refused c.args.err.now) (g.E.Sink.refused told.new.err) c.in-PidTaken.is
          told.ensures.reported;
      never_falls = told.ensures.never_falls;
    }

pub returns-in-Conversation : goal.returns-in-Conversation
returns-in-Conversation g c =
    let told = c.report_conversation in record {
      reported = told_at (Conversation c.in-Conversation.answer) c.args.outcome.now told.result (g.E.Sink.written c.args.err.now)
          (g.E.Sink.written told.new.err) (g.E.Sink.faults c.args.err.now) (g.E.Sink.faults told.new.err)
          (g.E.Sink.refused c.args.err.now) (g.E.Sink.refused told.new.err) c.in-Conversation.is
          told.ensures.reported;
      never_falls = told.ensures.never_falls;
    }

pub returns-in-AcceptFault : goal.returns-in-AcceptFault
returns-in-AcceptFault g c =
    let told = c.write_line-in-AcceptFault in record {
      reported = told_at AcceptFault c.args.outcome.now told.result (g.E.Sink.written c.args.err.now)
          (g.E.Sink.written told.new.err) (g.E.Sink.faults c.args.err.now) (g.E.Sink.faults told.new.err)
          (g.E.Sink.refused c.args.err.now) (g.E.Sink.refused told.new.err) c.in-AcceptFault.is
          told.ensures.reported;
      never_falls = told.ensures.never_falls;
    }

pub returns-in-SpawnFault : goal.returns-in-SpawnFault
returns-in-SpawnFault g c =
    let told = c.write_line-in-SpawnFault in record {
      reported = told_at SpawnFault c.args.outcome.now told.result (g.E.Sink.written c.args.err.now)
          (g.E.Sink.written told.new.err) (g.E.Sink.faults c.args.err.now) (g.E.Sink.faults told.new.err)
          (g.E.Sink.refused c.args.err.now) (g.E.Sink.refused told.new.err) c.in-SpawnFault.is
          told.ensures.reported;
      never_falls = told.ensures.never_falls;
    }

pub write_line-requires : goal.write_line-requires
write_line-requires g c = no_empty_line _ _

pub write_line-requires-in-PidTaken : goal.write_line-requires-in-PidTaken
write_line-requires-in-PidTaken g c = no_empty_line _ _

pub write_line-requires-in-AcceptFault : goal.write_line-requires-in-AcceptFault
write_line-requires-in-AcceptFault g c = no_empty_line _ _

pub write_line-requires-in-SpawnFault : goal.write_line-requires-in-SpawnFault
write_line-requires-in-SpawnFault g c = no_empty_line _ _
