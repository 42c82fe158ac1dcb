use Rattle.std.proofs.Common.{refl, ap}
use Rattle.conversation_runs.specs.Session.{whole_rules}
use Rattle.pg_engine.proofs.conversation.SessionConversation.feed.Goals as goal

pub returns-clause-fed : goal.returns-clause-fed
returns-clause-fed g c = (c.feed.new.self.rest, c.feed.ensures.fed, λ more. refl)

pub returns-clause-rules : goal.returns-clause-rules
returns-clause-rules g c = ap (λ handlers. whole_rules (g.H.PgWireServerHandlers.told handlers)) c.feed.ensures.handlers

pub returns-clause-sent : goal.returns-clause-sent
returns-clause-sent g c = c.feed.ensures.sent

pub returns-clause-open : goal.returns-clause-open
returns-clause-open g c = c.feed.ensures.«open»

pub returns-clause-causes : goal.returns-clause-causes
returns-clause-causes g c = c.feed.ensures.causes
