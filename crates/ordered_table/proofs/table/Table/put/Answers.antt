use Rattle.std.proofs.Common.{◌≡◌, true, false, ltb, length, take, refl, ap, ◌∙◌, rules, arith, length-take-le}
use Rattle.std.proofs.lemmas.Bool.Decides.{nat_tests}
use Rattle.ordered_table.specs.Rows.{sought}
use Rattle.ordered_table.proofs.OnOrder.{order_of}
use Rattle.ordered_table.proofs.OnSought.{at_err, ok_found}
use Rattle.ordered_table.proofs.OnTables.{put_over, put_new}
use Rattle.ordered_table.proofs.table.Table.put.Goals as goal

-- over the row of its key
pub invariant_of-self : goal.invariant_of-self
invariant_of-self g c =
    let t = c.args.self.now in
    let o = order_of g.met.K.Key.itself g.met.K.Key.chain g.met.K.Key.apart in
    let p = put_over o c.args.key t.lines.now t.used t.within t.rises c.rows.result.now c.rows.ensures c.in-Ok.place c.args.entry c.in-Ok.ensures.is c.in-Ok.ensures.inside in
    record { within = p.within; rises = p.rises }

pub returns-in-Ok : goal.returns-in-Ok
returns-in-Ok g c =
    let t = c.args.self.now in
    let o = order_of g.met.K.Key.itself g.met.K.Key.chain g.met.K.Key.apart in
    let p = put_over o c.args.key t.lines.now t.used t.within t.rises c.rows.result.now c.rows.ensures c.in-Ok.place c.args.entry c.in-Ok.ensures.is c.in-Ok.ensures.inside in
    let f = ok_found g.K.Key.below c.args.key (take t.used t.lines.now) c.in-Ok.place (c.in-Ok.ensures.is ∙ ap (sought g.K.Key.below c.args.key) c.rows.ensures) in
    record { answer = rw f refl; rows = p.rows; lines = p.lines; room = search rules; lender = refl; map = λ _. p.map }

-- no line is free
pub returns-then-self-room-clause-answer : goal.returns-then-self-room-clause-answer
returns-then-self-room-clause-answer g c =
    let t = c.args.self.now in
    let s = at_err g.K.Key.below c.args.key (take t.used t.lines.now) c.in-Err.place (c.in-Err.ensures.is ∙ ap (sought g.K.Key.below c.args.key) c.rows.ensures) in
    let n = length-take-le t.used t.lines.now t.within in
    let full : ltb (length (take t.used t.lines.now)) (length t.lines.now) ≡ false = grind (arith, nat_tests, c.if-self-room.true, c.room.ensures) in
    rw (s.1, full) refl

-- a new row
pub invariant_of-self-in-Err : goal.invariant_of-self-in-Err
invariant_of-self-in-Err g c =
    let t = c.args.self.now in
    let o = order_of g.met.K.Key.itself g.met.K.Key.chain g.met.K.Key.apart in
    let p = put_new o c.args.key t.lines.now t.used t.within t.rises c.rows.result.now c.rows.ensures c.in-Err.place c.args.entry _ c.in-Err.ensures.is c.in-Err.ensures.inside c.insert_at.ensures in
    record { within = p.within; rises = p.rises }

pub returns-else-self-room : goal.returns-else-self-room
returns-else-self-room g c =
    let t = c.args.self.now in
    let o = order_of g.met.K.Key.itself g.met.K.Key.chain g.met.K.Key.apart in
    let p = put_new o c.args.key t.lines.now t.used t.within t.rises c.rows.result.now c.rows.ensures c.in-Err.place c.args.entry _ c.in-Err.ensures.is c.in-Err.ensures.inside c.insert_at.ensures in
    let s = at_err g.K.Key.below c.args.key (take t.used t.lines.now) c.in-Err.place (c.in-Err.ensures.is ∙ ap (sought g.K.Key.below c.args.key) c.rows.ensures) in
    let n = length-take-le t.used t.lines.now t.within in
    let free : ltb (length (take t.used t.lines.now)) (length t.lines.now) ≡ true = grind (arith, nat_tests, c.if-self-room.false, c.room.ensures) in
    record { answer = rw (s.1, free) refl; rows = p.rows; lines = p.lines; room = search rules; lender = refl; map = λ _. p.map }
