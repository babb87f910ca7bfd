mod OneClass
