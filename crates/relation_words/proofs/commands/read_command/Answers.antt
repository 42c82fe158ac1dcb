use Rattle.std.proofs.Common.{Result, Ok, Err, OnErr, option_map, ap, sym}
use Rattle.std.specs.Option.{option_or}
use Rattle.relation_words.specs.Commands.{load_of, told_serving}
use Rattle.relation_words.specs.declared.commands.Command.TheVariants.{Serve, Demo}
use Rattle.relation_words.proofs.commands.read_command.Goals as goal

on_err : {A E : Type 0} (r : Result A E) (P : Type 0) → P → OnErr r P
on_err (Ok a) P p = tt
on_err (Err e) P p = p

pub returns-in_err-service-in-Some-clause-err : goal.returns-in_err-service-in-Some-clause-err
returns-in_err-service-in-Some-clause-err c =
    on_err c.from_residual.result _ (
      told_serving c.in-Some.serving,
      ap (λ s. option_or (option_map Serve s) (option_map Demo (load_of c.args.words.now))) (sym c.in-Some.ensures),
    )
