-- `decode::request` meets its contract: each arm is the rule's own test.
use Rattle.rules.specs.Events.{request as request_of, asked_in}
use Rattle.stepping.proofs.Fields.{last_service}
use Rattle.stepping.proofs.decode.request.Goals as goal

pub returns-in-1 : goal.returns-in-1
unfolding request_of asked_in
returns-in-1 c = rw c.in-1.is

pub returns-in-2 : goal.returns-in-2
unfolding request_of asked_in
returns-in-2 c = rw c.in-2.is

pub returns-in-3 : goal.returns-in-3
unfolding request_of asked_in
returns-in-3 c = rw (c.in-3.is, c.from.ensures)

pub returns-in-4 : goal.returns-in-4
unfolding request_of asked_in
returns-in-4 c = rw c.in-4.is

pub returns-in-5 : goal.returns-in-5
unfolding request_of asked_in
returns-in-5 c = rw c.in-5.is

pub returns-in-6 : goal.returns-in-6
unfolding request_of asked_in
returns-in-6 c = rw c.in-6.is

pub returns-in-7 : goal.returns-in-7
unfolding request_of asked_in
returns-in-7 c = rw c.in-7.is

pub returns-in-8 : goal.returns-in-8
unfolding request_of asked_in
returns-in-8 c = rw c.in-8.is

pub returns-in_default : goal.returns-in_default
unfolding request_of asked_in
returns-in_default c =
    rw (last_service c.args.service c.args.argument c.requires c.in_default.in_default-own.rest.0.0.0.0.0.0.0.1
    c.in_default.in_default-own.rest.0.0.0.0.0.0.1 c.in_default.in_default-own.rest.0.0.0.0.0.1 c.in_default.in_default-own.rest.0.0.0.0.1 c.in_default.in_default-own.rest.0.0.0.1
    c.in_default.in_default-own.rest.0.0.1 c.in_default.in_default-own.rest.0.1 c.in_default.in_default-own.rest.1)
