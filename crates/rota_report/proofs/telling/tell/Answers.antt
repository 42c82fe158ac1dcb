-- An answer is told as what it is, and each line has a first byte.
use Rattle.std.proofs.Common.{◌≡◌, ◌≢◌, ◌∙◌, ℕ, List, [], ◌∷◌, Option, Some, None, Result, Ok, Err, inl, refl, sym, ap, subst, append-nil, arith}
use Rattle.conversation_runs.specs.Streams.{GrowsBy}
use Rattle.status_lines.specs.StatusLines.{IsReported}
use Rattle.rota_report.specs.declared.failure.Failure.{Failure}
use Rattle.rota_report.specs.declared.failure.Failure.TheVariants.{Usage, File, NoColumn, OutOfRange, TotalOverflow, WriteFault, NoMemory}
use Rattle.rota_report.specs.Statuses.{status_of, line_of}
use Rattle.rota_report.proofs.telling.tell.Goals as goal

told : (answer is : Result (Unit {0}) Failure) (ended : ℕ) (old new : Option (List ℕ)) (faults new_faults refused new_refused : ℕ) → answer ≡ is
    → IsReported (status_of is) (line_of is) ended old new faults new_faults refused new_refused
    → IsReported (status_of answer) (line_of answer) ended old new faults new_faults refused new_refused
told answer is ended old new faults new_faults refused new_refused e h =
    let P : Result (Unit {0}) Failure → Type 0 = λ a. IsReported (status_of a) (line_of a) ended old new faults new_faults refused new_refused in
    subst P (sym e) h

nothing_more : (old : Option (List ℕ)) → GrowsBy old old []
nothing_more None = tt
nothing_more (Some written) = ap Some (sym (append-nil written))

some_byte : (byte : ℕ) (bytes : List ℕ) → byte ∷ bytes ≢ []
some_byte byte bytes e = cc

pub returns-in-Ok : goal.returns-in-Ok
returns-in-Ok g c =
    let old = g.E.Sink.written c.args.err.now in
    let faults = g.E.Sink.faults c.args.err.now in
    let refused = g.E.Sink.refused c.args.err.now in
    record {
      reported = told c.args.answer.now (Ok c.in-Ok.field-0) 0 old old faults faults refused refused c.in-Ok.is (inl (inl (refl, nothing_more old)));
      never_falls = omega arith;
    }

pub write_line-requires : goal.write_line-requires
write_line-requires g c = some_byte _ _

pub returns-in-Err-Usage : goal.returns-in-Err-Usage
returns-in-Err-Usage g c =
    let call = c.write_line in
    record {
      reported = told c.args.answer.now (Err Usage) call.result (g.E.Sink.written c.args.err.now) (g.E.Sink.written call.new.err)
          (g.E.Sink.faults c.args.err.now) (g.E.Sink.faults call.new.err)
          (g.E.Sink.refused c.args.err.now) (g.E.Sink.refused call.new.err) (c.in-Err-Usage.is ∙ ap Err (rw c.in-Err-Usage.is at c.in-Err-Usage.field-0-is))
          call.ensures.reported;
      never_falls = call.ensures.never_falls;
    }

pub returns-in-Err-File : goal.returns-in-Err-File
returns-in-Err-File g c =
    let call = c.report_file in
    record {
      reported = told c.args.answer.now (Err (File c.in-Err-File.error)) call.result (g.E.Sink.written c.args.err.now) (g.E.Sink.written call.new.err)
          (g.E.Sink.faults c.args.err.now) (g.E.Sink.faults call.new.err)
          (g.E.Sink.refused c.args.err.now) (g.E.Sink.refused call.new.err) (c.in-Err-File.is ∙ ap Err (rw c.in-Err-File.is at c.in-Err-File.field-0-is))
          call.ensures.reported;
      never_falls = call.ensures.never_falls;
    }

pub write_line-requires-in-Err-NoColumn : goal.write_line-requires-in-Err-NoColumn
write_line-requires-in-Err-NoColumn g c = some_byte _ _

pub returns-in-Err-NoColumn : goal.returns-in-Err-NoColumn
returns-in-Err-NoColumn g c =
    let call = c.write_line-in-Err-NoColumn in
    record {
      reported = told c.args.answer.now (Err NoColumn) call.result (g.E.Sink.written c.args.err.now) (g.E.Sink.written call.new.err)
          (g.E.Sink.faults c.args.err.now) (g.E.Sink.faults call.new.err)
          (g.E.Sink.refused c.args.err.now) (g.E.Sink.refused call.new.err) (c.in-Err-NoColumn.is ∙ ap Err (rw c.in-Err-NoColumn.is at c.in-Err-NoColumn.field-0-is))
          call.ensures.reported;
      never_falls = call.ensures.never_falls;
    }

pub write_line-requires-in-Err-OutOfRange : goal.write_line-requires-in-Err-OutOfRange
write_line-requires-in-Err-OutOfRange g c = some_byte _ _

pub returns-in-Err-OutOfRange : goal.returns-in-Err-OutOfRange
returns-in-Err-OutOfRange g c =
    let call = c.write_line-in-Err-OutOfRange in
    record {
      reported = told c.args.answer.now (Err OutOfRange) call.result (g.E.Sink.written c.args.err.now) (g.E.Sink.written call.new.err)
          (g.E.Sink.faults c.args.err.now) (g.E.Sink.faults call.new.err)
          (g.E.Sink.refused c.args.err.now) (g.E.Sink.refused call.new.err) (c.in-Err-OutOfRange.is ∙ ap Err (rw c.in-Err-OutOfRange.is at c.in-Err-OutOfRange.field-0-is))
          call.ensures.reported;
      never_falls = call.ensures.never_falls;
    }

pub write_line-requires-in-Err-TotalOverflow : goal.write_line-requires-in-Err-TotalOverflow
write_line-requires-in-Err-TotalOverflow g c = some_byte _ _

pub returns-in-Err-TotalOverflow : goal.returns-in-Err-TotalOverflow
returns-in-Err-TotalOverflow g c =
    let call = c.write_line-in-Err-TotalOverflow in
    record {
      reported = told c.args.answer.now (Err TotalOverflow) call.result (g.E.Sink.written c.args.err.now) (g.E.Sink.written call.new.err)
          (g.E.Sink.faults c.args.err.now) (g.E.Sink.faults call.new.err)
          (g.E.Sink.refused c.args.err.now) (g.E.Sink.refused call.new.err) (c.in-Err-TotalOverflow.is ∙ ap Err (rw c.in-Err-TotalOverflow.is at c.in-Err-TotalOverflow.field-0-is))
          call.ensures.reported;
      never_falls = call.ensures.never_falls;
    }

pub write_line-requires-in-Err-WriteFault : goal.write_line-requires-in-Err-WriteFault
write_line-requires-in-Err-WriteFault g c = some_byte _ _

pub returns-in-Err-WriteFault : goal.returns-in-Err-WriteFault
returns-in-Err-WriteFault g c =
    let call = c.write_line-in-Err-WriteFault in
    record {
      reported = told c.args.answer.now (Err WriteFault) call.result (g.E.Sink.written c.args.err.now) (g.E.Sink.written call.new.err)
          (g.E.Sink.faults c.args.err.now) (g.E.Sink.faults call.new.err)
          (g.E.Sink.refused c.args.err.now) (g.E.Sink.refused call.new.err) (c.in-Err-WriteFault.is ∙ ap Err (rw c.in-Err-WriteFault.is at c.in-Err-WriteFault.field-0-is))
          call.ensures.reported;
      never_falls = call.ensures.never_falls;
    }

pub write_line-requires-in-Err-NoMemory : goal.write_line-requires-in-Err-NoMemory
write_line-requires-in-Err-NoMemory g c = some_byte _ _

pub returns-in-Err-NoMemory : goal.returns-in-Err-NoMemory
returns-in-Err-NoMemory g c =
    let call = c.write_line-in-Err-NoMemory in
    record {
      reported = told c.args.answer.now (Err NoMemory) call.result (g.E.Sink.written c.args.err.now) (g.E.Sink.written call.new.err)
          (g.E.Sink.faults c.args.err.now) (g.E.Sink.faults call.new.err)
          (g.E.Sink.refused c.args.err.now) (g.E.Sink.refused call.new.err) (c.in-Err-NoMemory.is ∙ ap Err (rw c.in-Err-NoMemory.is at c.in-Err-NoMemory.field-0-is))
          call.ensures.reported;
      never_falls = call.ensures.never_falls;
    }
