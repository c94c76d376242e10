use Rattle.query_words.proofs.Cutting.{cut_later, cut_neither, cut_one, cut_other, cut_sooner}
use Rattle.query_words.proofs.cuts.cut.Goals as goal

pub returns-in-None-None : goal.returns-in-None-None
returns-in-None-None c = cut_neither c.args.one c.args.other c.args.word.now c.requires.one_byte c.requires.other_byte
    c.in-None-None.ensures.cases c.in-None-None.ensures'.cases

pub returns-in-None-Some : goal.returns-in-None-Some
returns-in-None-Some c = cut_other c.args.one c.args.other c.args.word.now c.in-None-Some.name c.in-None-Some.rest
    c.requires.one_byte
    c.requires.other_byte c.in-None-Some.ensures.cases c.in-None-Some.ensures'.cases

pub returns-in-Some-None : goal.returns-in-Some-None
returns-in-Some-None c = cut_one c.args.one c.args.other c.args.word.now c.in-Some-None.name c.in-Some-None.rest
    c.requires.one_byte
    c.requires.other_byte c.in-Some-None.ensures.cases c.in-Some-None.ensures'.cases

pub returns-then-name-longer : goal.returns-then-name-longer
returns-then-name-longer c = cut_sooner c.args.one c.args.other c.args.word.now c.in-Some-Some.name c.in-Some-Some.rest
    c.in-Some-Some.longer c.in-Some-Some.tail c.requires.one_byte c.requires.other_byte c.in-Some-Some.ensures.cases
    c.in-Some-Some.ensures'.cases c.if-name-longer.true

pub returns-else-name-longer : goal.returns-else-name-longer
returns-else-name-longer c = cut_later c.args.one c.args.other c.args.word.now c.in-Some-Some.name c.in-Some-Some.rest
    c.in-Some-Some.longer c.in-Some-Some.tail c.requires.one_byte c.requires.other_byte c.in-Some-Some.ensures.cases
    c.in-Some-Some.ensures'.cases c.if-name-longer.false
