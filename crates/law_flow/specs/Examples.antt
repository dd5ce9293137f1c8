-- Runs that come to states of the shape that the premises are written for: two sides, on a processor each, of which one revokes and gives from there on; and one that creates alone.
use Rattle.std.specs.Prelude.{ℕ, ◌==◌, ◌||◌, Bool, nat_le, nat_lt, List, [], ◌∷◌, Some}
use Rattle.nova_range.specs.declared.range.Kind.TheVariants.{Mem}
use Rattle.nova_model.specs.Boot.{Scenario}
use Rattle.nova_model.specs.declared.delegation.Derivation.{Derivation}
use Rattle.law_integrity.specs.Examples.{image}

-- On two processors, with 4 pages, the root makes two monitors, protection domains 3 and 4, gives page 1 to the first and page 2 to the second, and
-- makes a handler in each, the local threads 5 and 6, with portals 7 and 8 to them. It makes two guests, domains 9 and 10, gives each the portal of
-- its monitor, with the right to send exits, and makes a virtual CPU in each, 11 and 12, with scheduling contexts 13 and 14. Handler 6 and guest 12
-- are on processor 1. Then it dies, all in 66 turns. Handlers begin in page 1, where
-- the first one revokes what was given of that page, which is nothing, and replies to its guest's startup with an item, which gives it the page at 0.
abbrev pub two_homes : Scenario
two_homes = record {
  cpus = 2;
  ram = 2;
  consoles = 0;
  root = record { pc = 0; sp = 0; priority = 1; quantum = 100 };
  images =
      image 0 (2099347 ∷ 33555731 ∷ 5687 ∷ 30803475 ∷ 115 ∷ 34604307 ∷ 9783 ∷ 30803475 ∷ 115 ∷ 3147923 ∷ 35652883 ∷ 33555859 ∷ 1555 ∷ 115 ∷ 36701459 ∷ 34604435 ∷ 1050131 ∷ 115 ∷ 5245075 ∷ 67110163 ∷ 1427 ∷ 35653139 ∷ 5943 ∷ 115 ∷ 68158739 ∷ 36701715 ∷ 115 ∷ 2099347 ∷ 37750035 ∷ 263735 ∷ 20317715 ∷ 115 ∷ 38798611 ∷ 267831 ∷ 20317715 ∷ 115 ∷ 3147923 ∷ 39847187 ∷ 37750163 ∷ 536872467 ∷ 67110675 ∷ 115 ∷ 40895763 ∷ 38798739 ∷ 537921043 ∷ 68159251 ∷ 115 ∷ 4196499 ∷ 41944339 ∷ 1427 ∷ 39847443 ∷ 268437139 ∷ 115 ∷ 42992915 ∷ 40896019 ∷ 115 ∷ 1048691 ∷ [])
      ∷ image 4096 (5047 ∷ 13861779 ∷ 230675 ∷ 7342227 ∷ 115 ∷ 4294963895 ∷ 66359 ∷ 6463523 ∷ 510831651 ∷ 1049747 ∷ 512929315 ∷ 1050771 ∷ 115 ∷ [])
      ∷ [];
  sources = [];
}

-- the domains of one side, and of the other; the objects of the first, and its processor
abbrev pub first_domains : ℕ → Bool
first_domains n = (n == 3) || (n == 9)

abbrev pub other_domains : ℕ → Bool
other_domains n = (n == 4) || (n == 10)

abbrev pub first_objects : ℕ → Bool
first_objects n = (n == 5) || ((n == 7) || ((n == 11) || (n == 13)))

abbrev pub first_processors : ℕ → Bool
first_processors n = n == 0

-- what the first monitor gives its guest: its page, at 0
abbrev pub given_page : Derivation
given_page = record { id = 20; pd = 9; kind = Mem; base = 0; order = 0; rights = record { 0 = 3 }; target = 1; parent = Some 5 }

-- On two processors, with 2 pages, the root makes a protection domain, 3, with a thread on processor 1, 4, and a scheduling context, 5, and revokes its
-- capabilities to the three, all in 22 turns. Then nobody but the root holds anything. It makes a protection domain, 6, with a page as first range,
-- and a local thread, 7.
abbrev pub lone_maker : Scenario
lone_maker = record {
  cpus = 2;
  ram = 1;
  consoles = 0;
  root = record { pc = 0; sp = 0; priority = 1; quantum = 100 };
  images =
      image 0 (2099347 ∷ 33555731 ∷ 115 ∷ 3147923 ∷ 34604307 ∷ 33555859 ∷ 269485587 ∷ 115 ∷ 4196499 ∷ 35652883 ∷ 34604563 ∷ 269485715 ∷ 115 ∷ 7342227 ∷ 132407 ∷ 271910163 ∷ 1050003 ∷ 115 ∷ 2099347 ∷ 33555731 ∷ 1427 ∷ 13633043 ∷ 115 ∷ 3147923 ∷ 34604307 ∷ 1555 ∷ 115 ∷ [])
      ∷ [];
  sources = [];
}

-- the root's side, with the numbers of no object; the other, with a domain, an execution context and a scheduling context; turns in which the root makes two objects, and the other's thread begins;
-- and what it gives first
abbrev pub maker_domains : ℕ → Bool
maker_domains n = (n == 0) || nat_le 6 n

abbrev pub maker_objects : ℕ → Bool
maker_objects n = nat_lt n 3 || nat_le 6 n

abbrev pub made_domains : ℕ → Bool
made_domains n = n == 3

abbrev pub maker_turns : List ℕ
maker_turns = 0 ∷ 0 ∷ 0 ∷ 1 ∷ 0 ∷ 0 ∷ 0 ∷ 0 ∷ 0 ∷ 0 ∷ 1 ∷ 0 ∷ 0 ∷ []

abbrev pub first_page : Derivation
first_page = record { id = 8; pd = 6; kind = Mem; base = 0; order = 0; rights = record { 0 = 3 }; target = 0; parent = Some 0 }
