use Rattle.std.proofs.Common.{◌≡◌, true, false, pos, sym, ap, ◌∙◌, w32}
use Rattle.std.proofs.lemmas.Int.{to_z-of_z}
use Rattle.station.specs.Elements.{element_number, takes, in_range}
use Rattle.station.proofs.OnElements.{range_of}
use Rattle.daybook.proofs.pair.Pair.check_value.Goals as goal

pub returns-then-takes : goal.returns-then-takes
returns-then-takes c =
    let t = c.takes.ensures ∙ ap (takes c.args.self.element) (to_z-of_z w32 c.args.value c.ranges.value) in
    let h : in_range (pos (element_number c.args.self.element)) c.args.value ≡ true = range_of c.args.self.element c.args.value ∙ sym t ∙ c.if-takes.true in
    rw h

pub returns-else-takes : goal.returns-else-takes
returns-else-takes c =
    let t = c.takes.ensures ∙ ap (takes c.args.self.element) (to_z-of_z w32 c.args.value c.ranges.value) in
    let h : in_range (pos (element_number c.args.self.element)) c.args.value ≡ false = range_of c.args.self.element c.args.value ∙ sym t ∙ c.if-takes.false in
    rw h
