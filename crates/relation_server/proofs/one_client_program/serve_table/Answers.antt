use Rattle.std.proofs.Common.{◌≡◌, ◌∙◌, Err, FitsSigned, w32, rules, ap, refl, sym}
use Rattle.std.proofs.lemmas.Int.{to_z-of_z}
use Rattle.pg_cancel.specs.declared.manager.RegisterError.TheVariants as refusal
use Rattle.relation_server.proofs.Registering.{was_taken}
use Rattle.relation_server.proofs.one_client_program.serve_table.Goals as goal

pub returns-in-Err-PidTaken-clause-served : goal.returns-in-Err-PidTaken-clause-served
returns-in-Err-PidTaken-clause-served g c =
    λ left new_left faults new_faults.
    let m = c.in-Err-PidTaken.field-0-0 in
    let fits : FitsSigned w32 c.args.service.pid = search rules in
    let is : c.register.result ≡ Err (refusal.PidTaken m) = c.in-Err-PidTaken.is ∙ ap Err c.in-Err-PidTaken.field-0-is in (
      was_taken (c.args.service.pid, c.args.service.key) _ _ _ m (to_z-of_z w32 c.args.service.pid fits) (c.register.ensures.taken m is)
          ((c.register.ensures.exactly (λ other. cc (sym is ∙ other)) m).0 is),
      (refl, refl, refl),
      refl,
    )
