-- A sheet from what its clients answer and what its server answers, whatever their ends are made of.
use Rattle.std.specs.Prelude.{ℕ, List}
use Rattle.list.specs.Places.{Place}
use Rattle.model.specs.Questions.{no_report, Answer, Sent}
use Rattle.model.specs.Sheet.{Sheet}

pub record ClientCalls : Type 1 where
  pub Client : Type 0
  pub items : Client → List Place
  pub total : Client → ℕ
  -- on its own line
  pub made : Client → ℕ
  pub taken : Client → ℕ
  -- n, line, ranks, items
  pub opens : ℕ → ℕ → List ℕ → List ℕ → Answer Client
  pub insert : Client → ℕ → ℕ → Answer Client
  pub delete : Client → ℕ → Answer Client
  pub take_back : Client → Answer Client
  pub send : Client → ℕ → ℕ → List ℕ → Sent
  pub tell : Client → ℕ → List ℕ → Sent
  pub take : Client → List ℕ → Answer Client
  pub pack : Client → ℕ → List ℕ → ℕ → Sent
  pub take_packet : Client → List ℕ → Answer Client

pub record ServerCalls : Type 1 where
  pub Server : Type 0
  pub items : Server → List Place
  pub total : Server → ℕ
  pub made : Server → ℕ → ℕ
  pub taken : Server → ℕ → ℕ
  -- n, ranks, items
  pub opens : ℕ → List ℕ → List ℕ → Answer Server
  pub send : Server → ℕ → ℕ → List ℕ → Sent
  pub tell : Server → ℕ → List ℕ → Sent
  pub take : Server → List ℕ → Answer Server
  pub pack : Server → ℕ → List ℕ → ℕ → Sent
  pub take_packet : Server → List ℕ → Answer Server

pub data End (C S : Type 0) : Type 0 where
  client : C → End C S
  server : S → End C S

-- an answer about the one kind of end, as one about an end
abbrev pub answer_as : {A B : Type 0} → (A → B) → Answer A → Answer B
answer_as f a = record { refusal = a.refusal; end = f a.end; report = a.report }

-- The server's end makes no edits: it is no sound client.
abbrev pub refused_here : {A : Type 0} → A → Answer A
refused_here e = record { refusal = 2; end = e; report = no_report }

module _ (c : ClientCalls) (v : ServerCalls) where
  abbrev Ends : Type 0
  Ends = End c.Client v.Server

  abbrev items : Ends → List Place
  items (client e) = c.items e
  items (server e) = v.items e

  abbrev total : Ends → ℕ
  total (client e) = c.total e
  total (server e) = v.total e

  abbrev made : Ends → ℕ → ℕ
  made (client e) l = c.made e
  made (server e) l = v.made e l

  abbrev taken : Ends → ℕ → ℕ
  taken (client e) l = c.taken e
  taken (server e) l = v.taken e l

  abbrev insert : Ends → ℕ → ℕ → Answer Ends
  insert (client e) p x = answer_as client (c.insert e p x)
  insert (server e) p x = refused_here (server e)

  abbrev delete : Ends → ℕ → Answer Ends
  delete (client e) p = answer_as client (c.delete e p)
  delete (server e) p = refused_here (server e)

  abbrev take_back : Ends → Answer Ends
  take_back (client e) = answer_as client (c.take_back e)
  take_back (server e) = refused_here (server e)

  abbrev send : Ends → ℕ → ℕ → List ℕ → Sent
  send (client e) l number lent = c.send e l number lent
  send (server e) l number lent = v.send e l number lent

  abbrev tell : Ends → ℕ → List ℕ → Sent
  tell (client e) l lent = c.tell e l lent
  tell (server e) l lent = v.tell e l lent

  abbrev take : Ends → List ℕ → Answer Ends
  take (client e) bytes = answer_as client (c.take e bytes)
  take (server e) bytes = answer_as server (v.take e bytes)

  abbrev pack : Ends → ℕ → List ℕ → ℕ → Sent
  pack (client e) l lent offset = c.pack e l lent offset
  pack (server e) l lent offset = v.pack e l lent offset

  abbrev take_packet : Ends → List ℕ → Answer Ends
  take_packet (client e) bytes = answer_as client (c.take_packet e bytes)
  take_packet (server e) bytes = answer_as server (v.take_packet e bytes)

  abbrev pub sheet_of : Sheet
  sheet_of =
      record {
        End = Ends;
        items = items;
        total = total;
        made = made;
        taken = taken;
        open_server = λ n ranks xs. answer_as server (v.opens n ranks xs);
        open_client = λ n l ranks xs. answer_as client (c.opens n l ranks xs);
        insert = insert;
        delete = delete;
        take_back = take_back;
        send = send;
        tell = tell;
        take = take;
        pack = pack;
        take_packet = take_packet;
      }
