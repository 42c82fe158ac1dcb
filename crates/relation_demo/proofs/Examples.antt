-- Examples of the load, computed. What they expect was told by tools/demo_load.py, or counted by hand.
use Rattle.std.proofs.Common.{◌≡◌, pos, negsuc, [], ◌∷◌, codes, refl, lit<}
use Rattle.std.proofs.lemmas.Fmt.{decimal_digit}
use Rattle.pg_messages.specs.declared.response.TransactionStatus.TheVariants as status
use Rattle.pg_messages.specs.declared.backend.PgWireBackendMessage.TheVariants as server
use Rattle.relation_demo.specs.Draws.{step, after, draw}
use Rattle.relation_demo.specs.Load.{cell, unready, width, height, before}
use Rattle.relation_demo.specs.Client.{asking, demo_client}
use Rattle.relation_demo.specs.Counting.{row_count}

-- the first relation of seed 0: two polls, one column, seventeen rows
first_head : (unready 0 ≡ 2) × (width 0 ≡ 1) × (height 0 ≡ 17)
unfolding draw after step
first_head = (refl, refl, refl)

first_cell : cell (after 0 3) ≡ record { months = negsuc 350; days = negsuc 583; microseconds = pos 130695067 }
unfolding draw after step
first_cell = refl

-- the third relation of seed 7, behind one of 13 rows of four columns and one without rows
third_cell : cell (after (before 7 2) 3) ≡ record { months = negsuc 586; days = negsuc 636; microseconds = pos 617932370 }
unfolding before draw after step
third_cell = refl

-- the client of one relation, 65 bytes
asking_first : asking 0 ≡ 80 ∷ 0 ∷ 0 ∷ 0 ∷ 10 ∷ 0 ∷ 114 ∷ 48 ∷ 0 ∷ 0 ∷ 0 ∷
    66 ∷ 0 ∷ 0 ∷ 0 ∷ 14 ∷ 0 ∷ 0 ∷ 0 ∷ 0 ∷ 0 ∷ 0 ∷ 0 ∷ 1 ∷ 0 ∷ 1 ∷
    69 ∷ 0 ∷ 0 ∷ 0 ∷ 9 ∷ 0 ∷ 0 ∷ 0 ∷ 0 ∷ 0 ∷
    83 ∷ 0 ∷ 0 ∷ 0 ∷ 4 ∷ []
unfolding asking
asking_first = rw (decimal_digit 0 (lit< tt)) refl

one_relation : demo_client 1 ≡ 0 ∷ 0 ∷ 0 ∷ 19 ∷ 0 ∷ 3 ∷ 0 ∷ 0 ∷ 117 ∷ 115 ∷ 101 ∷ 114 ∷ 0 ∷ 100 ∷ 101 ∷ 109 ∷ 111 ∷ 0 ∷ 0 ∷
    80 ∷ 0 ∷ 0 ∷ 0 ∷ 10 ∷ 0 ∷ 114 ∷ 48 ∷ 0 ∷ 0 ∷ 0 ∷
    66 ∷ 0 ∷ 0 ∷ 0 ∷ 14 ∷ 0 ∷ 0 ∷ 0 ∷ 0 ∷ 0 ∷ 0 ∷ 0 ∷ 1 ∷ 0 ∷ 1 ∷
    69 ∷ 0 ∷ 0 ∷ 0 ∷ 9 ∷ 0 ∷ 0 ∷ 0 ∷ 0 ∷ 0 ∷
    83 ∷ 0 ∷ 0 ∷ 0 ∷ 4 ∷
    88 ∷ 0 ∷ 0 ∷ 0 ∷ 4 ∷ []
unfolding demo_client
one_relation = rw asking_first refl

-- of two rows and the messages behind them
two_rows : row_count (server.DataRow (record { payload = []; field_count = pos 0 }) ∷ server.DataRow (record {
  payload = 68 ∷ [];
  field_count = pos 1;
})
    ∷ server.CommandComplete (record { tag = codes "SELECT 2" }) ∷ server.ReadyForQuery (record { status = status.Idle }) ∷ []) ≡ 2
two_rows = refl
