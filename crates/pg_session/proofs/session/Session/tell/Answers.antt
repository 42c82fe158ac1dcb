-- Each way on which an error is told or isn't, by what the call of process_error ensures.
use Rattle.std.proofs.Common.{◌≡◌, ◌≢◌, ◌⊎◌, inl, inr, Option, Some, None, refl}
use Rattle.pg_client.specs.declared.ends.EndKind.{EndKind}
use Rattle.pg_client.specs.declared.ends.EndKind.TheVariants as end
use Rattle.pg_session.proofs.session.Session.tell.Goals as goal

-- an error's end is none of the input
no_end_of_input : (told : Option EndKind) → (told ≡ None) ⊎ (told ≡ Some end.Fatal) → told ≢ Some end.InputEnd
no_end_of_input told (inl goes) is = cc
no_end_of_input told (inr fatal) is = cc

pub returns-in-Ok : goal.returns-in-Ok
returns-in-Ok g c = record {
  known = c.in_default.not-NoMemory;
  replied = c.in-Ok.ensures.replied;
  next = c.in-Ok.ensures.next;
  only = tt;
  behind = record {
    ends = no_end_of_input c.in-Ok.end c.in-Ok.ensures.ends;
    opened = c.in-Ok.ensures.«open»;
    handlers = c.in-Ok.ensures.handlers;
    rest = c.in-Ok.ensures.rest;
  };
}

pub returns-in-Err : goal.returns-in-Err
returns-in-Err g c = record {
  known = tt;
  replied = tt;
  next = tt;
  only = refl;
  behind = record {
    ends = tt;
    opened = c.in-Err.ensures.«open»;
    handlers = c.in-Err.ensures.handlers;
    rest = c.in-Err.ensures.rest;
  };
}
